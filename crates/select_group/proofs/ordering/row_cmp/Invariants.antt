use Rattle.std.proofs.Common.{◌≡◌, drop}
use Rattle.select_group.specs.Order.{row_cmp}
use Rattle.select_group.proofs.ordering.row_cmp.Given as goal

abbrev pub invariant-loop-by : goal.invariant-loop-by
invariant-loop-by l = row_cmp (drop l.by-index l.order) l.a l.b ≡ row_cmp l.order l.a l.b
