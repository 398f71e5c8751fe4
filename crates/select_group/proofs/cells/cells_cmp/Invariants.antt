use Rattle.std.proofs.Common.{◌≡◌, length}
use Rattle.select_group.specs.Rows.{cells_cmp}
use Rattle.select_group.proofs.cells.cells_cmp.Given as goal

abbrev pub invariant-loop-front : goal.invariant-loop-front
invariant-loop-front l = cells_cmp l.front l.other ≡ cells_cmp l.a l.b

abbrev pub decreases-loop-front : goal.decreases-loop-front
decreases-loop-front l = length l.front
