use Rattle.std.proofs.Common.{◌≡◌, ◌+◌, ◌≤◌, List, Option, ℤ, ◌++◌, length, take}
use Rattle.binning.specs.Bins.{cells}
use Rattle.binning.specs.Gathered.{Gathered, Knows, AreDistinct, keys_in, held}
use Rattle.binning.proofs.gathering.put_rows.Given as goal

abbrev pub invariant-loop-row : goal.invariant-loop-row
invariant-loop-row l = record {
  knows : Knows l.known.map (keys_in l.groups.items);
  distinct : AreDistinct (keys_in l.groups.items);
  few : length l.groups.items ≤ length l.places.items;
  rows : length l.places.items ≡ length l.initial.places.items + l.row;
  gathered : (column : List (Option ℤ)) → Gathered (held l.rule l.initial.groups.items l.initial.places.items) column → Gathered (held l.rule l.groups.items l.places.items) (column ++ cells (take l.row l.is_there) (take l.row l.values));
}
