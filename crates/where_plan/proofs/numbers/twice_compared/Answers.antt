use Rattle.std.proofs.Common.{◌≡◌, ◌&&◌, ◌||◌, [], ◌∷◌, ℤ, ◌∙◌}
use Rattle.std.specs.Int.{w128}
use Rattle.std.proofs.lemmas.Int.{to_z-of_z}
use mir.Val.{SFits}
use Rattle.binning.specs.Spans.{in_span}
use Rattle.where_grammar.specs.Holds.{compares}
use Rattle.where_plan.proofs.RangeLemmas.{has_four, spans_given}
use Rattle.where_plan.proofs.numbers.twice_compared.Goals as goal

pub returns : goal.returns
returns c =
    let low_fits : SFits w128 c.args.low = c.ranges.low in
    let high_fits : SFits w128 c.args.high = c.ranges.high in
    let e = c.compared.result.0 in
    let f = c.compared.result.1 in
    let x = c.compared-of_first.result in
    let y = c.compared-of_second.result in
    let h : (n : ℤ) → (in_span n e || in_span n f) ≡ (in_span n c.args.ends && compares c.args.left n c.args.low) = λ n. simp to_z-of_z at (c.compared.ensures.numbers n) in
    let k : (n : ℤ) → (in_span n x.0 || in_span n x.1) ≡ (in_span n e && compares c.args.right n c.args.high) = λ n. simp to_z-of_z at (c.compared-of_first.ensures.numbers n) in
    let m : (n : ℤ) → (in_span n y.0 || in_span n y.1) ≡ (in_span n f && compares c.args.right n c.args.high) = λ n. simp to_z-of_z at (c.compared-of_second.ensures.numbers n) in
    spans_given c.args.ends (λ n. compares c.args.left n c.args.low && compares c.args.right n c.args.high) (x.0 ∷ x.1 ∷ y.0 ∷ y.1 ∷ []) c.of.result c.of.ensures.same c.of.ensures.apart
    (λ n. has_four c.args.ends x.0 x.1 y.0 y.1 e f (λ n. compares c.args.left n c.args.low) (λ n. compares c.args.right n c.args.high) n (h n) (k n) (m n))
