use Rattle.std.proofs.Common.{◌≡◌, ◌&&◌, ◌∙◌}
use Rattle.std.specs.Prelude.{int_le}
use Rattle.std.specs.Int.{w128}
use Rattle.std.proofs.lemmas.Int.{to_z-of_z}
use mir.Val.{SFits}
use Rattle.binning.specs.Spans.{in_span}
use Rattle.where_plan.proofs.RangeLemmas.{one_number}
use Rattle.where_plan.proofs.numbers.only.Goals as goal

pub returns-clause-numbers : goal.returns-clause-numbers
returns-clause-numbers c = λ n.
    let fits : SFits w128 c.args.number = c.ranges.number in
    let h : in_span n c.between.result ≡ (in_span n c.args.ends && (int_le c.args.number n && int_le n c.args.number)) = simp to_z-of_z at (c.between.ensures.numbers n) in
    h ∙ one_number c.args.ends n c.args.number
