use Rattle.std.proofs.Common.{◌≡◌, Option, Some, List, ℕ, subst, sym, ◌∙◌}
use Rattle.answers.specs.Answers.{Tells}
use Rattle.where_grammar.specs.declared.clause.Clause.{Clause}
use Rattle.where_plan.specs.Plans.{IsPlan}
use Rattle.where_plan.specs.Refusals.{refusal, refusal_of}
use Rattle.ibis_answer.proofs.QueryLemmas.{asks_plan, name_stops, opening_looks, opening_stops, text_stops}
use Rattle.ibis_answer.proofs.asking.asked.Goals as goal

pub returns-in-Err-clause-asks : goal.returns-in-Err-clause-asks
returns-in-Err-clause-asks g c =
    rw c.stop_of_text.ensures
    (text_stops c.args.dir.now c.args.query.now c.in-Ok.text.now _ c.in-Err.fault (c.in-Ok.ensures.cases.0 ∙ c.bytes.ensures) c.in-Err.ensures)

pub returns-in-Err-opened-clause-asks : goal.returns-in-Err-opened-clause-asks
returns-in-Err-opened-clause-asks g c =
    opening_stops c.args.dir.now c.args.query.now c.in-Ok.text.now _ c.in-Ok-clause_of.clause (c.in-Ok.ensures.cases.0 ∙ c.bytes.ensures)
    c.in-Ok-clause_of.ensures c.in-Err-opened.stop c.in-Err-opened.ensures.finds

pub returns-in-Err-opened-clause-reads : goal.returns-in-Err-opened-clause-reads
returns-in-Err-opened-clause-reads g c =
    opening_looks c.args.dir.now c.args.query.now c.in-Ok.text.now (g.S.Store.files c.args.store.now) c.in-Ok-clause_of.clause
    (c.in-Ok.ensures.cases.0 ∙ c.bytes.ensures) c.in-Ok-clause_of.ensures _ _ c.opened.ensures.reads

pub returns-in-Ok-resolve-clause-reads : goal.returns-in-Ok-resolve-clause-reads
returns-in-Ok-resolve-clause-reads g c =
    opening_looks c.args.dir.now c.args.query.now c.in-Ok.text.now (g.S.Store.files c.args.store.now) c.in-Ok-clause_of.clause
    (c.in-Ok.ensures.cases.0 ∙ c.bytes.ensures) c.in-Ok-clause_of.ensures _ _ c.opened.ensures.reads

pub returns-clause-reads : goal.returns-clause-reads
returns-clause-reads g c =
    opening_looks c.args.dir.now c.args.query.now c.in-Ok.text.now (g.S.Store.files c.args.store.now) c.in-Ok-clause_of.clause
    (c.in-Ok.ensures.cases.0 ∙ c.bytes.ensures) c.in-Ok-clause_of.ensures _ _ c.opened.ensures.reads

pub returns-in-Ok-resolve-clause-asks : goal.returns-in-Ok-resolve-clause-asks
returns-in-Ok-resolve-clause-asks g c =
    asks_plan c.args.dir.now c.args.query.now c.in-Ok.text.now _ c.in-Ok-clause_of.clause (c.in-Ok.ensures.cases.0 ∙ c.bytes.ensures)
    c.in-Ok-clause_of.ensures c.in-Ok-opened.dataset c.in-Ok-opened.ensures.finds c.in-Ok-resolve.plan
    (subst (λ (asked : Option Clause). IsPlan c.in-Ok-opened.dataset.schema asked c.in-Ok-resolve.plan) c.as_ref.ensures.value c.in-Ok-resolve.ensures.found)

pub returns-clause-asks : goal.returns-clause-asks
returns-clause-asks g c =
    rw c.stop_of_name.ensures
    (name_stops c.args.dir.now c.args.query.now c.in-Ok.text.now _ c.in-Ok-clause_of.clause (c.in-Ok.ensures.cases.0 ∙ c.bytes.ensures)
    c.in-Ok-clause_of.ensures c.in-Ok-opened.dataset c.in-Ok-opened.ensures.finds c.in-Err-resolve.fault
    (subst (λ (asked : Option Clause). Tells refusal (λ kind. refusal_of c.in-Ok-opened.dataset.schema asked ≡ Some kind) c.in-Err-resolve.fault) c.as_ref.ensures.value c.in-Err-resolve.ensures.refused))
