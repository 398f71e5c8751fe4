use Rattle.std.proofs.Common.{◌≡◌, ◌++◌, length, take, drop}
use Rattle.std.specs.Prelude.{◌^◌}
use Rattle.std.specs.List.{AllByRecursion}
use Rattle.select_group.specs.Totals.{IsTotalWithin, totals_with}
use Rattle.select_group.proofs.totals.add_numbers.Given as goal

abbrev pub invariant-loop-place : goal.invariant-loop-place
invariant-loop-place l = record {
  so_far : take l.place l.totals ++ totals_with (drop l.place l.items) (drop l.place l.totals) (drop l.place l.numbers) ≡ totals_with l.items l.fn.totals l.numbers;
  long : length l.totals ≡ length l.items;
  left : AllByRecursion (IsTotalWithin (2 ^ 32)) (drop l.place l.totals);
}
