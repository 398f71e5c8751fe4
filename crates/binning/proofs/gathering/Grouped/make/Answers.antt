use Rattle.std.proofs.Common.{arith, refl}
use Rattle.binning.proofs.GatherLemmas.{gathered_none}
use Rattle.binning.proofs.gathering.Grouped.make.Goals as goal

pub invariant_of-result : goal.invariant_of-result
invariant_of-result c =
    let e = c.new-2.ensures.items in
    let f = c.new-3.ensures.items in
    rw (e, f) ((λ k. rw c.new.ensures refl), tt, omega arith, omega arith)

pub returns-clause-gathered : goal.returns-clause-gathered
returns-clause-gathered c = gathered_none c.args.rule _ _ c.new-2.ensures.items c.new-3.ensures.items
