use Rattle.std.proofs.Common.{◌≡◌, map, take}
use Rattle.world.specs.Cells.{number_of}
use Rattle.dataset.proofs.gathering.numbers_of.Given as goal

abbrev pub invariant-loop-row : goal.invariant-loop-row
invariant-loop-row l = l.numbers.items ≡ map number_of (take l.row l.part.cells)
