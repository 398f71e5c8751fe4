use Rattle.std.proofs.Common.{◌≡◌, ap, sym, ◌∙◌, map, rules}
use Rattle.std.proofs.lemmas.Result.{err_from_is_err_and}
use Rattle.where_grammar.specs.declared.clause.Clause.TheVariants as clause
use Rattle.where_plan.specs.Refusals.{atom_refusal, clause_refusal, first_some}
use Rattle.where_plan.proofs.FoldLemmas.{clause_refusal-and, clause_refusal-or, clause_refusal-xor}
use Rattle.where_plan.proofs.PlanLemmas.{and_planned, not_planned, one_planned, or_planned, part_refused, plans_step, tells_same, xor_planned}
use Rattle.where_plan.specs.Plans.{no_parts}
use Rattle.where_plan.proofs.planning.+planning.Goals as goal

pub planned-returns-in_err-planned_parts-in-Or-clause-refused : goal.planned-returns-in_err-planned_parts-in-Or-clause-refused
planned-returns-in_err-planned_parts-in-Or-clause-refused t c =
    let p = err_from_is_err_and c.from_residual.result c.from_residual.ensures.1 in
    let s = c.args.schema.now in
    let is : c.args.clause.now ≡ clause.Or c.as_slice.result.now = cc in
    let parts = c.as_slice.result.now in
    rw (p.1, p.2) (tells_same (clause_refusal s c.args.clause.now) (first_some (map (clause_refusal s) parts)) _ (ap (clause_refusal s) is ∙ clause_refusal-or s parts) c.in_err-planned_parts-in-Or.ensures.refused)

pub planned-returns-in_err-planned_parts-in-Xor-clause-refused : goal.planned-returns-in_err-planned_parts-in-Xor-clause-refused
planned-returns-in_err-planned_parts-in-Xor-clause-refused t c =
    let p = err_from_is_err_and c.from_residual-in_err-planned_parts-in-Xor.result c.from_residual-in_err-planned_parts-in-Xor.ensures.1 in
    let s = c.args.schema.now in
    let parts = c.as_slice-in-Xor.result.now in
    let is : c.args.clause.now ≡ clause.Xor c.as_slice-in-Xor.result.now = cc in
    rw (p.1, p.2) (tells_same (clause_refusal s c.args.clause.now) (first_some (map (clause_refusal s) parts)) _ (ap (clause_refusal s) is ∙ clause_refusal-xor s parts) c.in_err-planned_parts-in-Xor.ensures.refused)

pub planned-returns-in_err-planned_parts-in-And-clause-refused : goal.planned-returns-in_err-planned_parts-in-And-clause-refused
planned-returns-in_err-planned_parts-in-And-clause-refused t c =
    let p = err_from_is_err_and c.from_residual-in_err-planned_parts-in-And.result c.from_residual-in_err-planned_parts-in-And.ensures.1 in
    let s = c.args.schema.now in
    let parts = c.as_slice-in-And.result.now in
    let is : c.args.clause.now ≡ clause.And c.as_slice-in-And.result.now = cc in
    rw (p.1, p.2) (tells_same (clause_refusal s c.args.clause.now) (first_some (map (clause_refusal s) parts)) _ (ap (clause_refusal s) is ∙ clause_refusal-and s parts) c.in_err-planned_parts-in-And.ensures.refused)

pub planned-returns-in_ok-planned_parts-in-Or-clause-found : goal.planned-returns-in_ok-planned_parts-in-Or-clause-found
planned-returns-in_ok-planned_parts-in-Or-clause-found t c =
    let is : c.args.clause.now ≡ clause.Or c.as_slice.result.now = cc in
    or_planned c.args.schema.now c.args.clause.now c.as_slice.result.now c.in_ok-planned_parts-in-Or.field-0 is c.in_ok-planned_parts-in-Or.ensures.found

pub planned-returns-in_ok-planned_parts-in-Xor-clause-found : goal.planned-returns-in_ok-planned_parts-in-Xor-clause-found
planned-returns-in_ok-planned_parts-in-Xor-clause-found t c =
    let is : c.args.clause.now ≡ clause.Xor c.as_slice-in-Xor.result.now = cc in
    xor_planned c.args.schema.now c.args.clause.now c.as_slice-in-Xor.result.now c.in_ok-planned_parts-in-Xor.field-0 is c.in_ok-planned_parts-in-Xor.ensures.found

pub planned-returns-in_ok-planned_parts-in-And-clause-found : goal.planned-returns-in_ok-planned_parts-in-And-clause-found
planned-returns-in_ok-planned_parts-in-And-clause-found t c =
    let is : c.args.clause.now ≡ clause.And c.as_slice-in-And.result.now = cc in
    and_planned c.args.schema.now c.args.clause.now c.as_slice-in-And.result.now c.in_ok-planned_parts-in-And.field-0 is c.in_ok-planned_parts-in-And.ensures.found

pub planned-returns-in_ok-new-in-Not-clause-found : goal.planned-returns-in_ok-new-in-Not-clause-found
planned-returns-in_ok-new-in-Not-clause-found t c =
    let is : c.args.clause.now ≡ clause.Not c.get.result.now = cc in
    not_planned c.args.schema.now c.args.clause.now c.get.result.now c.in_ok-part-in-Not.part c.in_ok-new-in-Not.field-0 is c.in_ok-new-in-Not.ensures c.in_ok-part-in-Not.ensures.found

pub planned-returns-in_ok-planned_atom-in-One-clause-found : goal.planned-returns-in_ok-planned_atom-in-One-clause-found
planned-returns-in_ok-planned_atom-in-One-clause-found t c =
    one_planned c.args.schema.now c.args.clause.now c.in-One.condition c.in_ok-planned_atom-in-One.field-0 c.in-One.is c.in_ok-planned_atom-in-One.ensures.found

pub planned_parts-returns-in_err-planned-clause-refused : goal.planned_parts-returns-in_err-planned-clause-refused
planned_parts-returns-in_err-planned-clause-refused t c =
    let p = err_from_is_err_and c.from_residual.result c.from_residual.ensures.1 in
    rw (p.1, p.2) (part_refused c.args.schema.now c.args.parts.now c.loop-part.plans c.loop-part.part-index c.part-item.result _ c.loop-part-test.true c.part-item.is c.loop-part.invariant c.in_err-planned.ensures.refused)

pub planned_parts-loop-part-preserved : goal.planned_parts-loop-part-preserved
planned_parts-loop-part-preserved t c =
    plans_step c.args.schema.now c.args.parts.now c.loop-part.plans c.push.new.self c.loop-part.part-index c.part-item.result c.in_ok-planned.field-0 c.loop-part-test.true c.part-item.is c.loop-part.invariant c.in_ok-planned.ensures.found c.in_ok-push.ensures.ok

pub planned_parts-loop-part-init : goal.planned_parts-loop-part-init
planned_parts-loop-part-init t c = rw c.new-plans.ensures no_parts
