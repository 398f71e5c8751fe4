use Rattle.std.proofs.Common.{◌≡◌, ◌&&◌, ap, ◌∙◌}
use Rattle.std.specs.Prelude.{int_le}
use Rattle.std.specs.Int.{w128}
use Rattle.std.proofs.lemmas.Int.{to_z-of_z}
use mir.Val.{SFits}
use Rattle.binning.specs.Spans.{in_span}
use Rattle.where_plan.proofs.RangeLemmas.{and_swapped}
use Rattle.where_plan.proofs.numbers.between.Goals as goal

pub returns-clause-numbers : goal.returns-clause-numbers
returns-clause-numbers c = λ n.
    let low_fits : SFits w128 c.args.low = c.ranges.low in
    let high_fits : SFits w128 c.args.high = c.ranges.high in
    let high : in_span n c.at_most.result ≡ (in_span n c.args.ends && int_le n c.args.high) = simp to_z-of_z at (c.at_most.ensures.numbers n) in
    let low : in_span n c.at_least.result ≡ (in_span n c.at_most.result && int_le c.args.low n) = simp to_z-of_z at (c.at_least.ensures.numbers n) in
    and_swapped (in_span n c.args.ends) (int_le n c.args.high) (int_le c.args.low n) (in_span n c.at_least.result) (low ∙ ap (λ b. b && int_le c.args.low n) high)
