use Rattle.std.proofs.Common.{pos, ◌+ℤ◌, ◌<ℤ◌, ◌≤ℤ◌, arith, rules}
use Rattle.std.specs.Int.{w128}
use Rattle.std.proofs.lemmas.Int.{ints, to_z-of_z}
use Rattle.binning.proofs.SpanLemmas.{gap_step, join_step, skip_step}
use Rattle.binning.proofs.span_lists.opened.Goals as goal

pub returns-then-span-current : goal.returns-then-span-current
returns-then-span-current c =
    let gap : (c.args.current.greatest +ℤ pos 1) <ℤ c.args.span.least = omega (arith, ints) in
    λ rest seen j. rw c.in_ok-push.ensures.items (gap_step c.args.items.now.items c.args.current c.args.span rest seen j gap)

pub returns-then-span-current-2 : goal.returns-then-span-current-2
returns-then-span-current-2 c =
    let touch : c.args.span.least ≤ℤ (c.args.current.greatest +ℤ pos 1) = omega (arith, ints) in
    let up : c.args.current.greatest <ℤ c.args.span.greatest = omega (arith, ints) in
    λ rest seen j. join_step c.args.items.now.items c.args.current c.args.span _ rest seen j (to_z-of_z w128 _ (search rules)) (to_z-of_z w128 _ (search rules)) touch up

pub returns : goal.returns
returns c =
    let up : c.args.span.greatest ≤ℤ c.args.current.greatest = omega (arith, ints) in
    λ rest seen j. skip_step c.args.items.now.items c.args.current c.args.span rest seen j up
