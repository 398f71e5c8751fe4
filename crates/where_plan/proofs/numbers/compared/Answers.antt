use Rattle.std.proofs.Common.{◌≡◌, ◌&&◌, ◌||◌, int_lt, not, sym, ap, ◌∙◌}
use Rattle.std.specs.Prelude.{int_le}
use Rattle.std.specs.Ordering.{int_eq}
use Rattle.std.specs.Int.{w128}
use Rattle.std.proofs.lemmas.Int.{to_z-of_z}
use mir.Val.{SFits}
use Rattle.binning.specs.Spans.{in_span}
use Rattle.where_grammar.specs.Holds.{compares}
use Rattle.where_plan.proofs.RangeLemmas.{both_sides, first_alone}
use Rattle.where_plan.proofs.numbers.compared.Goals as goal

pub returns-in-Less-clause-numbers : goal.returns-in-Less-clause-numbers
returns-in-Less-clause-numbers c = λ n.
    let fits : SFits w128 c.args.limit = c.ranges.limit in
    let h : in_span n c.below.result ≡ (in_span n c.args.ends && int_lt n c.args.limit) = simp to_z-of_z at (c.below.ensures.numbers n) in
    first_alone (in_span n c.below.result) (in_span n c.nothing.result) (in_span n c.args.ends && compares c.args.by n c.args.limit) (rw c.in-Less.is h) (c.nothing.ensures.numbers n)

pub returns-in-LessEq-clause-numbers : goal.returns-in-LessEq-clause-numbers
returns-in-LessEq-clause-numbers c = λ n.
    let fits : SFits w128 c.args.limit = c.ranges.limit in
    let h : in_span n c.at_most.result ≡ (in_span n c.args.ends && int_le n c.args.limit) = simp to_z-of_z at (c.at_most.ensures.numbers n) in
    first_alone (in_span n c.at_most.result) (in_span n c.nothing-in-LessEq.result) (in_span n c.args.ends && compares c.args.by n c.args.limit) (rw c.in-LessEq.is h) (c.nothing-in-LessEq.ensures.numbers n)

pub returns-in-Greater-clause-numbers : goal.returns-in-Greater-clause-numbers
returns-in-Greater-clause-numbers c = λ n.
    let fits : SFits w128 c.args.limit = c.ranges.limit in
    let h : in_span n c.above.result ≡ (in_span n c.args.ends && int_lt c.args.limit n) = simp to_z-of_z at (c.above.ensures.numbers n) in
    first_alone (in_span n c.above.result) (in_span n c.nothing-in-Greater.result) (in_span n c.args.ends && compares c.args.by n c.args.limit) (rw c.in-Greater.is h) (c.nothing-in-Greater.ensures.numbers n)

pub returns-in-GreaterEq-clause-numbers : goal.returns-in-GreaterEq-clause-numbers
returns-in-GreaterEq-clause-numbers c = λ n.
    let fits : SFits w128 c.args.limit = c.ranges.limit in
    let h : in_span n c.at_least.result ≡ (in_span n c.args.ends && int_le c.args.limit n) = simp to_z-of_z at (c.at_least.ensures.numbers n) in
    first_alone (in_span n c.at_least.result) (in_span n c.nothing-in-GreaterEq.result) (in_span n c.args.ends && compares c.args.by n c.args.limit) (rw c.in-GreaterEq.is h) (c.nothing-in-GreaterEq.ensures.numbers n)

pub returns-in-Equal-clause-numbers : goal.returns-in-Equal-clause-numbers
returns-in-Equal-clause-numbers c = λ n.
    let fits : SFits w128 c.args.limit = c.ranges.limit in
    let h : in_span n c.only.result ≡ (in_span n c.args.ends && int_eq n c.args.limit) = simp to_z-of_z at (c.only.ensures.numbers n) in
    first_alone (in_span n c.only.result) (in_span n c.nothing-in-Equal.result) (in_span n c.args.ends && compares c.args.by n c.args.limit) (rw c.in-Equal.is h) (c.nothing-in-Equal.ensures.numbers n)

pub returns-in-Differs-clause-numbers : goal.returns-in-Differs-clause-numbers
returns-in-Differs-clause-numbers c = λ n.
    let fits : SFits w128 c.args.limit = c.ranges.limit in
    let h : in_span n c.below-in-Differs.result ≡ (in_span n c.args.ends && int_lt n c.args.limit) = simp to_z-of_z at (c.below-in-Differs.ensures.numbers n) in
    let k : in_span n c.above-in-Differs.result ≡ (in_span n c.args.ends && int_lt c.args.limit n) = simp to_z-of_z at (c.above-in-Differs.ensures.numbers n) in
    rw c.in-Differs.is
    (ap (λ b. b || in_span n c.above-in-Differs.result) h ∙ ap (λ b. (in_span n c.args.ends && int_lt n c.args.limit) || b) k ∙ both_sides c.args.ends n c.args.limit)
