use Rattle.std.proofs.Common.{◌≡◌, ◌&&◌, [], ◌∷◌, ℤ, ◌∙◌}
use Rattle.std.specs.Prelude.{int_le}
use Rattle.std.specs.Int.{w128}
use Rattle.std.proofs.lemmas.Int.{to_z-of_z}
use mir.Val.{SFits}
use Rattle.binning.specs.Spans.{in_span}
use Rattle.where_plan.proofs.RangeLemmas.{has_one, spans_given}
use Rattle.where_plan.proofs.numbers.spans_between.Goals as goal

pub returns : goal.returns
returns c =
    let low_fits : SFits w128 c.args.low = c.ranges.low in
    let high_fits : SFits w128 c.args.high = c.ranges.high in
    let a = c.between.result in
    let h : (n : ℤ) → in_span n a ≡ (in_span n c.args.ends && (int_le c.args.low n && int_le n c.args.high)) = λ n. simp to_z-of_z at (c.between.ensures.numbers n) in
    spans_given c.args.ends (λ n. int_le c.args.low n && int_le n c.args.high) (a ∷ []) c.of.result c.of.ensures.same c.of.ensures.apart (λ n. has_one a n ∙ h n)
