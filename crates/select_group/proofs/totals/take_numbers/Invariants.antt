use Rattle.std.proofs.Common.{◌≡◌, ◌++◌, drop}
use Rattle.select_group.specs.Totals.{numbers_of}
use Rattle.select_group.proofs.totals.take_numbers.Given as goal

abbrev pub invariant-loop-place : goal.invariant-loop-place
invariant-loop-place l = l.numbers.items ++ numbers_of (drop l.place l.items) (drop l.place l.cells) ≡ numbers_of l.items l.cells
