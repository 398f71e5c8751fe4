use Rattle.std.proofs.Common.{◌≡◌, ◌≤◌, take, vec_len}
use Rattle.binning.specs.Bins.{cells, present}
use Rattle.binning.proofs.masks.present_values.Given as goal

abbrev pub invariant-loop-row : goal.invariant-loop-row
invariant-loop-row g l = record { values : l.found.items ≡ present (cells (take l.row l.is_there) (take l.row l.values)); few : vec_len l.found ≤ l.row }
