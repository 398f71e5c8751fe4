use Rattle.std.proofs.Common.{◌≡◌, ◌++◌, length, take, drop}
use Rattle.select_group.specs.Answer.{key_of}
use Rattle.select_group.proofs.totals.key_of.Given as goal

abbrev pub invariant-loop-place : goal.invariant-loop-place
invariant-loop-place l = record {
  so_far : take l.place l.cells ++ key_of (drop l.place l.items) (drop l.place l.cells) ≡ key_of l.items l.fn.cells;
  long : length l.cells ≡ length l.items;
}
