use Rattle.std.proofs.Common.{◌≡◌, ◌+◌, ◌*◌, ◌≤◌, true, IsOk, refl, sym, ap, subst, ◌∙◌}
use Rattle.std.specs.List.{sum_by}
use Rattle.wah_logic.specs.Logic.{groups_and_rest}
use Rattle.three_valued.specs.Candidates.{definite_rows, possible_rows}
use Rattle.three_valued.specs.Plans.{atoms_of, parts_of}
use Rattle.stages.specs.Answer.{bitmaps_in, is_free_in}
use Rattle.stages.proofs.ListLemmas.{err_not_ok}
use Rattle.stages.proofs.LookLemmas.{adds_done, looks_for_same}
use Rattle.stages.proofs.PlanRows.{none_read, settled_reads, told_columns}
use Rattle.stages.proofs.StepLemmas.{cost_bounds, cost_settled}
use Rattle.stages.proofs.walk.estimate.Goals as goal

pub returns-in_err-atoms-clause-reads : goal.returns-in_err-atoms-clause-reads
returns-in_err-atoms-clause-reads g c m is =
    let plan = c.args.plan.now in
    none_read m (is_free_in m plan) (bitmaps_in m plan) (g.S.Store.reads c.args.store.now) (IsOk c.from_residual.result) (err_not_ok c.from_residual.result c.from_residual.ensures.0)

pub returns-in_err-stage-clause-looks : goal.returns-in_err-stage-clause-looks
returns-in_err-stage-clause-looks g c =
    looks_for_same (g.C.Conditions.is_look c.args.conditions.now) c.in_ok-atoms.atoms (atoms_of c.args.plan.now) (g.S.Store.reads c.args.store.now) (g.S.Store.reads c.settle_all.new.store) c.in_ok-atoms.ensures.atoms c.settle_all.ensures.looks

pub returns-in_err-stage-clause-reads : goal.returns-in_err-stage-clause-reads
returns-in_err-stage-clause-reads g c m is =
    let plan = c.args.plan.now in
    let old = g.S.Store.reads c.args.store.now in
    let new = g.S.Store.reads c.settle_all.new.store in
    adds_done old new (is_free_in m plan) m.is_bitmap (bitmaps_in m plan) (IsOk c.settle_all.result) (IsOk c.from_residual-in_err-stage.result) (λ ok. absurd (err_not_ok c.from_residual-in_err-stage.result c.from_residual-in_err-stage.ensures.0 ok))
    (settled_reads m plan c.in_ok-atoms.atoms old new (IsOk c.settle_all.result) c.in_ok-atoms.ensures.atoms (c.settle_all.ensures.reads m is))

pub returns-in_err-stage-clause-steps : goal.returns-in_err-stage-clause-steps
returns-in_err-stage-clause-steps g c m is =
    let s = c.args.steps.now in
    let t = c.settle_all.new.steps in
    cost_settled (groups_and_rest m.rows) s t m c.args.plan.now (subst (λ l. t ≤ s + 2 * groups_and_rest m.rows * sum_by m.work l) c.in_ok-atoms.ensures.atoms (c.settle_all.ensures.steps m is))

pub returns-in_err-bounds-clause-looks : goal.returns-in_err-bounds-clause-looks
returns-in_err-bounds-clause-looks g c =
    looks_for_same (g.C.Conditions.is_look c.args.conditions.now) c.in_ok-atoms.atoms (atoms_of c.args.plan.now) (g.S.Store.reads c.args.store.now) (g.S.Store.reads c.settle_all.new.store) c.in_ok-atoms.ensures.atoms c.settle_all.ensures.looks

pub returns-in_err-bounds-clause-reads : goal.returns-in_err-bounds-clause-reads
returns-in_err-bounds-clause-reads g c m is =
    let plan = c.args.plan.now in
    let old = g.S.Store.reads c.args.store.now in
    let new = g.S.Store.reads c.settle_all.new.store in
    adds_done old new (is_free_in m plan) m.is_bitmap (bitmaps_in m plan) (IsOk c.settle_all.result) (IsOk c.from_residual-in_err-bounds.result) (λ ok. absurd (err_not_ok c.from_residual-in_err-bounds.result c.from_residual-in_err-bounds.ensures.0 ok))
    (settled_reads m plan c.in_ok-atoms.atoms old new (IsOk c.settle_all.result) c.in_ok-atoms.ensures.atoms (c.settle_all.ensures.reads m is))

pub returns-in_err-bounds-clause-steps : goal.returns-in_err-bounds-clause-steps
returns-in_err-bounds-clause-steps g c m is =
    let plan = c.args.plan.now in
    let s = c.args.steps.now in
    let t = c.settle_all.new.steps in
    let u = c.bounds_of.new.steps in
    let meant = g.met.C.Conditions.meaning c.args.conditions.now (g.S.Store.files c.args.store.now) m is in
    let long : m.rows ≡ c.rows.result = meant.all ∙ sym c.rows.ensures.rows in
    cost_bounds (groups_and_rest m.rows) s t u m plan
    (subst (λ l. t ≤ s + 2 * groups_and_rest m.rows * sum_by m.work l) c.in_ok-atoms.ensures.atoms (c.settle_all.ensures.steps m is))
    (subst (λ n. u ≤ t + 2 * groups_and_rest n * (6 * parts_of plan + 1)) (sym long) c.bounds_of.ensures.steps)

pub returns-clause-definite : goal.returns-clause-definite
returns-clause-definite g c m is =
    let plan = c.args.plan.now in
    let meant = g.met.C.Conditions.meaning c.args.conditions.now (g.S.Store.files c.args.store.now) m is in
    let long : m.rows ≡ c.rows.result = meant.all ∙ sym c.rows.ensures.rows in
    c.in_ok-bounds.ensures.definite m.answer (c.deref.ensures.value ∙ told_columns m plan c.in_ok-atoms.atoms c.rows.result c.in_ok-stage.stage.answers.items c.in_ok-atoms.ensures.atoms long (c.in_ok-stage.ensures.answers m is))
    ∙ ap (λ n. definite_rows n m.answer plan) (sym long)

pub returns-clause-possible : goal.returns-clause-possible
returns-clause-possible g c m is =
    let plan = c.args.plan.now in
    let meant = g.met.C.Conditions.meaning c.args.conditions.now (g.S.Store.files c.args.store.now) m is in
    let long : m.rows ≡ c.rows.result = meant.all ∙ sym c.rows.ensures.rows in
    c.in_ok-bounds.ensures.possible m.answer (c.deref.ensures.value ∙ told_columns m plan c.in_ok-atoms.atoms c.rows.result c.in_ok-stage.stage.answers.items c.in_ok-atoms.ensures.atoms long (c.in_ok-stage.ensures.answers m is))
    ∙ ap (λ n. possible_rows n m.answer plan) (sym long)

pub returns-clause-looks : goal.returns-clause-looks
returns-clause-looks g c =
    looks_for_same (g.C.Conditions.is_look c.args.conditions.now) c.in_ok-atoms.atoms (atoms_of c.args.plan.now) (g.S.Store.reads c.args.store.now) (g.S.Store.reads c.settle_all.new.store) c.in_ok-atoms.ensures.atoms c.settle_all.ensures.looks

pub returns-clause-reads : goal.returns-clause-reads
returns-clause-reads g c m is =
    let plan = c.args.plan.now in
    let old = g.S.Store.reads c.args.store.now in
    let new = g.S.Store.reads c.settle_all.new.store in
    let ok : IsOk c.settle_all.result = rw c.in_ok-stage.was refl in
    adds_done old new (is_free_in m plan) m.is_bitmap (bitmaps_in m plan) (IsOk c.settle_all.result) (true ≡ true) (λ done. ok)
    (settled_reads m plan c.in_ok-atoms.atoms old new (IsOk c.settle_all.result) c.in_ok-atoms.ensures.atoms (c.settle_all.ensures.reads m is))

pub returns-clause-steps : goal.returns-clause-steps
returns-clause-steps g c m is =
    let plan = c.args.plan.now in
    let s = c.args.steps.now in
    let t = c.settle_all.new.steps in
    let u = c.bounds_of.new.steps in
    let meant = g.met.C.Conditions.meaning c.args.conditions.now (g.S.Store.files c.args.store.now) m is in
    let long : m.rows ≡ c.rows.result = meant.all ∙ sym c.rows.ensures.rows in
    cost_bounds (groups_and_rest m.rows) s t u m plan
    (subst (λ l. t ≤ s + 2 * groups_and_rest m.rows * sum_by m.work l) c.in_ok-atoms.ensures.atoms (c.settle_all.ensures.steps m is))
    (subst (λ n. u ≤ t + 2 * groups_and_rest n * (6 * parts_of plan + 1)) (sym long) c.bounds_of.ensures.steps)
