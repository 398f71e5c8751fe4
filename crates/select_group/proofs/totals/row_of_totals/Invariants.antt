use Rattle.std.proofs.Common.{◌≡◌, ◌++◌, length, take, drop}
use Rattle.select_group.specs.Totals.{row_of_totals}
use Rattle.select_group.proofs.totals.row_of_totals.Given as goal

abbrev pub invariant-loop-place : goal.invariant-loop-place
invariant-loop-place l = record {
  so_far : take l.place l.cells ++ row_of_totals (drop l.place l.items) (drop l.place l.cells) (drop l.place l.totals) ≡ row_of_totals l.items l.fn.key l.totals;
  long : length l.cells ≡ length l.items;
}
