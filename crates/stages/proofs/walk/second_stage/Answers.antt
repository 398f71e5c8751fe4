use Rattle.std.proofs.Common.{◌≡◌, ◌+◌, ◌*◌, ◌≤◌, true, [], IsOk, length, refl, subst, ◌∙◌, arith}
use Rattle.wah_logic.specs.Logic.{groups_and_rest}
use Rattle.wah_logic.proofs.UnionLemmas.{words_few}
use Rattle.three_valued.specs.Plans.{parts_of}
use Rattle.stages.specs.Answer.{is_allowed_in}
use Rattle.stages.proofs.ListLemmas.{err_not_ok}
use Rattle.stages.proofs.LookLemmas.{adds_done}
use Rattle.stages.proofs.PlanRows.{exact_answer, exact_decides, told_checked, told_exact, told_reads, told_rows}
use Rattle.stages.proofs.StepLemmas.{cost_second}
use Rattle.stages.proofs.walk.second_stage.Goals as goal

pub returns-clause-rows : goal.returns-clause-rows
returns-clause-rows g c m is =
    let on = c.args.conditions.now in
    let plan = c.args.plan.now in
    let whole = c.args.whole.now in
    let meant = g.met.C.Conditions.meaning on (g.S.Store.files c.args.store.now) m is in
    let answered = c.requires.answered m is in
    told_rows m plan whole c.in_ok-rows.rows answered
    (c.in_ok-rows.ensures.rows (exact_answer m plan) m.truth
    (c.deref.ensures.value ∙ told_exact m plan c.args.atoms.now whole c.args.unknown.now c.in_ok-second.second.answers.items c.requires.atoms answered c.requires.unknown (c.in_ok-second.ensures.answers m is))
    (exact_decides (g.C.Conditions.rows on) (g.C.Conditions.fits on) m plan whole meant c.requires.fits answered))

pub returns-clause-checked : goal.returns-clause-checked
returns-clause-checked g c m is =
    told_checked m c.args.plan.now c.args.atoms.now c.args.whole.now c.args.unknown.now c.in_ok-second.second.checked c.requires.atoms (c.requires.answered m is) c.requires.unknown (c.in_ok-second.ensures.checked m is)

pub returns-in_err-second-clause-reads : goal.returns-in_err-second-clause-reads
returns-in_err-second-clause-reads g c m is =
    let plan = c.args.plan.now in
    let old = g.S.Store.reads c.args.store.now in
    let new = g.S.Store.reads c.decide_all.new.store in
    adds_done old new (is_allowed_in m plan) m.is_bitmap [] (IsOk c.decide_all.result) (IsOk c.from_residual.result) (λ ok. absurd (err_not_ok c.from_residual.result c.from_residual.ensures.0 ok))
    (told_reads m plan c.args.atoms.now c.args.whole.now c.args.unknown.now old new (IsOk c.decide_all.result) c.requires.atoms (c.requires.answered m is) c.requires.unknown (c.decide_all.ensures.reads m is))

pub returns-in_err-rows-clause-reads : goal.returns-in_err-rows-clause-reads
returns-in_err-rows-clause-reads g c m is =
    let plan = c.args.plan.now in
    let old = g.S.Store.reads c.args.store.now in
    let new = g.S.Store.reads c.decide_all.new.store in
    adds_done old new (is_allowed_in m plan) m.is_bitmap [] (IsOk c.decide_all.result) (IsOk c.from_residual-in_err-rows.result) (λ ok. absurd (err_not_ok c.from_residual-in_err-rows.result c.from_residual-in_err-rows.ensures.0 ok))
    (told_reads m plan c.args.atoms.now c.args.whole.now c.args.unknown.now old new (IsOk c.decide_all.result) c.requires.atoms (c.requires.answered m is) c.requires.unknown (c.decide_all.ensures.reads m is))

pub returns-clause-reads : goal.returns-clause-reads
returns-clause-reads g c m is =
    let plan = c.args.plan.now in
    let old = g.S.Store.reads c.args.store.now in
    let new = g.S.Store.reads c.decide_all.new.store in
    let ok : IsOk c.decide_all.result = rw c.in_ok-second.was refl in
    adds_done old new (is_allowed_in m plan) m.is_bitmap [] (IsOk c.decide_all.result) (true ≡ true) (λ done. ok)
    (told_reads m plan c.args.atoms.now c.args.whole.now c.args.unknown.now old new (IsOk c.decide_all.result) c.requires.atoms (c.requires.answered m is) c.requires.unknown (c.decide_all.ensures.reads m is))

pub returns-clause-steps : goal.returns-clause-steps
returns-clause-steps g c =
    let rows = g.C.Conditions.rows c.args.conditions.now in
    let plan = c.args.plan.now in
    let t = c.decide_all.new.steps in
    let u = c.true_rows.new.steps in
    let few = words_few rows c.in_ok-rows.rows (c.in_ok-rows.ensures.length ∙ c.requires.whole) in
    cost_second (groups_and_rest rows) c.args.steps.now t u c.count_ones-count.new.steps (parts_of plan) (length c.args.atoms.now) c.decide_all.ensures.steps
    (subst (λ n. u ≤ t + 2 * groups_and_rest n * (6 * parts_of plan + 2)) c.requires.whole c.true_rows.ensures.steps) (omega (arith, few, c.count_ones-count.ensures.steps))
