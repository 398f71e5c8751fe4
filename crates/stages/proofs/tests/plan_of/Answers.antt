use Rattle.std.proofs.Common.{◌<◌, sym, ap, subst, ◌∙◌}
use Rattle.std.specs.List.{AllByRecursion}
use Rattle.where_plan.specs.Plans.{place_in}
use Rattle.three_valued.specs.Plans.{atoms_of}
use Rattle.three_valued.proofs.PlanLemmas.{atoms_of-and, atoms_of-or, atoms_of-xor}
use Rattle.stages.proofs.SheetLemmas.{one_more}
use Rattle.stages.proofs.tests.plan_of.Goals as goal
use Rattle.stages.proofs.tests.plan_of.Goals.{in-Or, in-Xor, in-And}

pub loop-col-preserved : goal.loop-col-preserved
loop-col-preserved c =
    one_more (λ atom. place_in atom < 5) c.loop-col.parts c.push.new.self _ c.in_ok-push.ensures.ok (c.requires c.loop-col.col-index 0 c.loop-col-test.true) c.loop-col.invariant

pub returns : goal.returns
returns c =
    let all = c.loop-col.invariant in
    elim c.match-join.branch [
      | in-Or w ↦ subst (AllByRecursion (λ atom. place_in atom < 5)) (sym (ap atoms_of w.result-is ∙ atoms_of-or c.loop-col.parts)) all
      | in-Xor w ↦ subst (AllByRecursion (λ atom. place_in atom < 5)) (sym (ap atoms_of w.result-is ∙ atoms_of-xor c.loop-col.parts)) all
      | in-And w ↦ subst (AllByRecursion (λ atom. place_in atom < 5)) (sym (ap atoms_of w.result-is ∙ atoms_of-and c.loop-col.parts)) all
    ]
