use Rattle.std.proofs.Common.{◌≡◌, ◌-◌, ◌+◌, ◌++◌, [], ◌∷◌, ap, ◌∙◌, arith}
use Rattle.std.specs.List.{range_with_len}
use Rattle.wah_iter.proofs.RangeLaws.{range_more}
use Rattle.wah_iter.proofs.tests.rows_between.Goals as goal

pub loop-row-preserved : goal.loop-row-preserved
loop-row-preserved c =
    let first = c.args.first in
    let row = c.loop-row.row in
    let i = c.loop-row.invariant in
    let at : first + (row - first) ≡ row = omega (arith, i.0) in
    let more : row - first + 1 ≡ row + 1 - first = omega (arith, i.0) in
    (omega (arith, i.0), c.in_ok-push.ensures.items ∙ ap (λ l. l ++ row ∷ []) i.1 ∙ ap (λ r. range_with_len first (row - first) ++ r ∷ []) (omega (arith, at)) ∙ range_more first (row - first) ∙ ap (range_with_len first) more)
