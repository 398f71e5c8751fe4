use Rattle.std.proofs.Common.{◌≡◌, ◌&&◌, ◌||◌, [], ◌∷◌, ℤ, ◌∙◌}
use Rattle.std.specs.Int.{w128}
use Rattle.std.proofs.lemmas.Int.{to_z-of_z}
use mir.Val.{SFits}
use Rattle.binning.specs.Spans.{in_span}
use Rattle.where_grammar.specs.Holds.{compares}
use Rattle.where_plan.proofs.RangeLemmas.{has_two, spans_given}
use Rattle.where_plan.proofs.numbers.compared_spans.Goals as goal

pub returns : goal.returns
returns c =
    let fits : SFits w128 c.args.limit = c.ranges.limit in
    let a = c.compared.result.0 in
    let b = c.compared.result.1 in
    let h : (n : ℤ) → (in_span n a || in_span n b) ≡ (in_span n c.args.ends && compares c.args.by n c.args.limit) = λ n. simp to_z-of_z at (c.compared.ensures.numbers n) in
    spans_given c.args.ends (λ n. compares c.args.by n c.args.limit) (a ∷ b ∷ []) c.of.result c.of.ensures.same c.of.ensures.apart (λ n. has_two a b n ∙ h n)
