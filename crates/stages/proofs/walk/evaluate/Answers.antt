use Rattle.std.proofs.Common.{◌+◌, ◌*◌, ◌≤◌, IsOk, length, refl, sym, subst}
use Rattle.std.specs.List.{sum_by}
use Rattle.fb_outside.proofs.ReadLemmas.{AddsOnly-trans}
use Rattle.wah_logic.specs.Logic.{groups_and_rest}
use Rattle.three_valued.specs.Plans.{atoms_of, parts_of}
use Rattle.stages.specs.Answer.{bitmaps_in, is_allowed_in}
use Rattle.stages.proofs.ListLemmas.{err_not_ok}
use Rattle.stages.proofs.LookLemmas.{IsLookFor, adds_done, looks_for_same}
use Rattle.stages.proofs.PlanRows.{allowed_reads, evaluated_reads, none_read}
use Rattle.stages.proofs.StepLemmas.{cost_hits, cost_settled}
use Rattle.stages.proofs.walk.evaluate.Goals as goal

pub returns-in_err-atoms-clause-reads : goal.returns-in_err-atoms-clause-reads
returns-in_err-atoms-clause-reads g c m is =
    let plan = c.args.plan.now in
    none_read m (is_allowed_in m plan) (bitmaps_in m plan) (g.S.Store.reads c.args.store.now) (IsOk c.from_residual.result) (err_not_ok c.from_residual.result c.from_residual.ensures.0)

pub returns-in_err-stage-clause-looks : goal.returns-in_err-stage-clause-looks
returns-in_err-stage-clause-looks g c =
    looks_for_same (g.C.Conditions.is_look c.args.conditions.now) c.in_ok-atoms.atoms (atoms_of c.args.plan.now) (g.S.Store.reads c.args.store.now) (g.S.Store.reads c.settle_all.new.store) c.in_ok-atoms.ensures.atoms c.settle_all.ensures.looks

pub returns-in_err-stage-clause-reads : goal.returns-in_err-stage-clause-reads
returns-in_err-stage-clause-reads g c m is =
    let plan = c.args.plan.now in
    let old = g.S.Store.reads c.args.store.now in
    let new = g.S.Store.reads c.settle_all.new.store in
    adds_done old new (is_allowed_in m plan) m.is_bitmap (bitmaps_in m plan) (IsOk c.settle_all.result) (IsOk c.from_residual-in_err-stage.result) (λ ok. absurd (err_not_ok c.from_residual-in_err-stage.result c.from_residual-in_err-stage.ensures.0 ok))
    (allowed_reads m plan c.in_ok-atoms.atoms old new (IsOk c.settle_all.result) c.in_ok-atoms.ensures.atoms (c.settle_all.ensures.reads m is))

pub returns-in_err-stage-clause-steps : goal.returns-in_err-stage-clause-steps
returns-in_err-stage-clause-steps g c m is =
    let s = c.args.steps.now in
    let t = c.settle_all.new.steps in
    cost_settled (groups_and_rest m.rows) s t m c.args.plan.now (subst (λ l. t ≤ s + 2 * groups_and_rest m.rows * sum_by m.work l) c.in_ok-atoms.ensures.atoms (c.settle_all.ensures.steps m is))

pub returns-clause-looks : goal.returns-clause-looks
returns-clause-looks g c =
    let is_look = g.C.Conditions.is_look c.args.conditions.now in
    let atoms = c.in_ok-atoms.atoms in
    let old = g.S.Store.reads c.args.store.now in
    let mid = g.S.Store.reads c.settle_all.new.store in
    let new = g.S.Store.reads c.hits_of.new.store in
    looks_for_same is_look atoms (atoms_of c.args.plan.now) old new c.in_ok-atoms.ensures.atoms
    (AddsOnly-trans (IsLookFor is_look atoms) old mid new c.settle_all.ensures.looks c.hits_of.ensures.looks)

pub returns-clause-reads : goal.returns-clause-reads
returns-clause-reads g c m is =
    let plan = c.args.plan.now in
    let still = subst (λ f. g.C.Conditions.means c.args.conditions.now f m) (sym c.settle_all.ensures.files) is in
    let ok : IsOk c.settle_all.result = rw c.in_ok-stage.was refl in
    evaluated_reads m plan c.in_ok-atoms.atoms (g.S.Store.reads c.args.store.now) (g.S.Store.reads c.settle_all.new.store) (g.S.Store.reads c.hits_of.new.store) (IsOk c.settle_all.result) (IsOk c.hits_of.result)
    c.in_ok-atoms.ensures.atoms ok (c.settle_all.ensures.reads m is) (c.hits_of.ensures.reads m still)

pub returns-clause-steps : goal.returns-clause-steps
returns-clause-steps g c m is =
    let plan = c.args.plan.now in
    let atoms = c.in_ok-atoms.atoms in
    let s = c.args.steps.now in
    let t = c.settle_all.new.steps in
    let u = c.hits_of.new.steps in
    let meant = g.met.C.Conditions.meaning c.args.conditions.now (g.S.Store.files c.args.store.now) m is in
    cost_hits (groups_and_rest m.rows) s t u m plan
    (subst (λ l. t ≤ s + 2 * groups_and_rest m.rows * sum_by m.work l) c.in_ok-atoms.ensures.atoms (c.settle_all.ensures.steps m is))
    (subst (λ l. u ≤ t + 2 * groups_and_rest m.rows * (12 * parts_of plan + 8 * length l + 8)) c.in_ok-atoms.ensures.atoms
    (subst (λ n. u ≤ t + 2 * groups_and_rest n * (12 * parts_of plan + 8 * length atoms + 8)) (sym meant.all) c.hits_of.ensures.steps))
