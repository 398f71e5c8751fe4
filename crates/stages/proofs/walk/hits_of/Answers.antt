use Rattle.std.proofs.Common.{◌≡◌, ◌+◌, ◌*◌, ◌≤◌, true, IsOk, length, map, refl, sym, ap, subst, ◌∙◌, arith}
use Rattle.std.proofs.lemmas.List.{length-map}
use Rattle.std.proofs.lemmas.Result.{err_from_is_err_and}
use Rattle.wah_logic.specs.Logic.{groups_and_rest, ones}
use Rattle.wah_logic.proofs.UnionLemmas.{words_few}
use Rattle.three_valued.specs.Plans.{parts_of}
use Rattle.three_valued.specs.Tables.{is_unknown, is_yes}
use Rattle.stages.specs.Answer.{is_allowed_in}
use Rattle.stages.proofs.LookLemmas.{adds_none, no_cause}
use Rattle.stages.proofs.PlanRows.{definite_is_true, none_checked, told_columns, told_whole}
use Rattle.stages.proofs.StepLemmas.{cost_both, cost_first}
use Rattle.stages.proofs.walk.hits_of.Goals as goal

pub returns-in_err-held-clause-reads : goal.returns-in_err-held-clause-reads
returns-in_err-held-clause-reads g c m is = adds_none (g.S.Store.reads c.args.store.now) (g.S.Store.reads c.args.store.now) (is_allowed_in m c.args.plan.now) m.is_bitmap (IsOk c.from_residual.result) refl

pub returns-in_err-unknown-clause-cause : goal.returns-in_err-unknown-clause-cause
returns-in_err-unknown-clause-cause g c =
    let exit = err_from_is_err_and c.from_residual-in_err-unknown.result c.from_residual-in_err-unknown.ensures.1 in
    let memory = g.met.C.Conditions.memory c.in_err-unknown.field-0.0 exit.0 exit.2 in
    no_cause c.from_residual-in_err-unknown.result g.C.Conditions.is_store exit.0 (g.S.Store.faults c.args.store.now) (g.S.Store.faults c.args.store.now) exit.1 (g.met.C.Conditions.no_failure exit.0 memory) refl

pub returns-in_err-rows-clause-cause : goal.returns-in_err-rows-clause-cause
returns-in_err-rows-clause-cause g c =
    let exit = err_from_is_err_and c.from_residual-in_err-rows.result c.from_residual-in_err-rows.ensures.1 in
    let memory = g.met.C.Conditions.memory c.in_err-rows.field-0.0 exit.0 exit.2 in
    no_cause c.from_residual-in_err-rows.result g.C.Conditions.is_store exit.0 (g.S.Store.faults c.args.store.now) (g.S.Store.faults c.args.store.now) exit.1 (g.met.C.Conditions.no_failure exit.0 memory) refl

pub returns-in_err-rows-clause-steps : goal.returns-in_err-rows-clause-steps
returns-in_err-rows-clause-steps g c =
    let on = c.args.conditions.now in
    let plan = c.args.plan.now in
    let rows = g.C.Conditions.rows on in
    let whole = c.get-whole.result.now in
    let long : length whole ≡ rows = ap length c.get-whole.ensures ∙ c.in_ok-held.ensures.length ∙ c.rows.ensures.rows in
    let t = c.answers_of.new.steps in
    let first = subst (λ n. t ≤ c.args.steps.now + 2 * groups_and_rest n * (6 * parts_of plan)) c.rows.ensures.rows c.answers_of.ensures.steps in
    let second = subst (λ n. c.unknown_rows.new.steps ≤ t + 2 * groups_and_rest n) long c.unknown_rows.ensures.steps in
    let few = words_few rows c.in_ok-unknown.unknown (ap length c.in_ok-unknown.ensures.rows ∙ length-map whole is_unknown ∙ long) in
    cost_first (groups_and_rest rows) c.args.steps.now t c.copy.new.steps (parts_of plan) (length c.args.atoms.now) first
    (omega (arith, second, few, c.count_ones-left.ensures.steps, c.in_err-rows.ensures.no_steps))

pub returns-then-left-eq0-clause-steps : goal.returns-then-left-eq0-clause-steps
returns-then-left-eq0-clause-steps g c =
    let on = c.args.conditions.now in
    let plan = c.args.plan.now in
    let rows = g.C.Conditions.rows on in
    let whole = c.get-whole.result.now in
    let long : length whole ≡ rows = ap length c.get-whole.ensures ∙ c.in_ok-held.ensures.length ∙ c.rows.ensures.rows in
    let t = c.answers_of.new.steps in
    let first = subst (λ n. t ≤ c.args.steps.now + 2 * groups_and_rest n * (6 * parts_of plan)) c.rows.ensures.rows c.answers_of.ensures.steps in
    let second = subst (λ n. c.unknown_rows.new.steps ≤ t + 2 * groups_and_rest n) long c.unknown_rows.ensures.steps in
    let few = words_few rows c.in_ok-unknown.unknown (ap length c.in_ok-unknown.ensures.rows ∙ length-map whole is_unknown ∙ long) in
    let some = words_few rows c.definite.result.now (ap length c.definite.ensures ∙ length-map whole is_yes ∙ long) in
    let same = words_few rows c.in_ok-rows.rows (ap length (c.in_ok-rows.ensures.copied ∙ c.definite.ensures) ∙ length-map whole is_yes ∙ long) in
    cost_first (groups_and_rest rows) c.args.steps.now t c.count_ones-count.new.steps (parts_of plan) (length c.args.atoms.now) first
    (omega (arith, second, few, some, same, c.count_ones-left.ensures.steps, c.in_ok-rows.ensures.steps, c.count_ones-count.ensures.steps))

pub returns-then-left-eq0-clause-rows : goal.returns-then-left-eq0-clause-rows
returns-then-left-eq0-clause-rows g c m is =
    let on = c.args.conditions.now in
    let plan = c.args.plan.now in
    let whole = c.get-whole.result.now in
    let meant = g.met.C.Conditions.meaning on (g.S.Store.files c.args.store.now) m is in
    let long : m.rows ≡ c.rows.result = meant.all ∙ sym c.rows.ensures.rows in
    let answered = told_whole m plan c.rows.result whole long (c.get-whole.ensures ∙ c.in_ok-held.ensures.answers m.answer
    (c.deref.ensures.value ∙ told_columns m plan c.args.atoms.now c.rows.result c.args.stage.now.answers.items c.requires.atoms long (c.requires.settled m is))) in
    let none : ones (map is_unknown whole) ≡ 0 = sym (ap ones c.in_ok-unknown.ensures.rows) ∙ sym c.count_ones-left.ensures.count ∙ c.if-left-eq0.true in
    c.in_ok-rows.ensures.copied ∙ c.definite.ensures ∙ definite_is_true (g.C.Conditions.rows on) (g.C.Conditions.fits on) m plan whole meant c.requires.fits answered none

pub returns-then-left-eq0-clause-checked : goal.returns-then-left-eq0-clause-checked
returns-then-left-eq0-clause-checked g c m is =
    let on = c.args.conditions.now in
    let plan = c.args.plan.now in
    let whole = c.get-whole.result.now in
    let meant = g.met.C.Conditions.meaning on (g.S.Store.files c.args.store.now) m is in
    let long : m.rows ≡ c.rows.result = meant.all ∙ sym c.rows.ensures.rows in
    let answered = told_whole m plan c.rows.result whole long (c.get-whole.ensures ∙ c.in_ok-held.ensures.answers m.answer
    (c.deref.ensures.value ∙ told_columns m plan c.args.atoms.now c.rows.result c.args.stage.now.answers.items c.requires.atoms long (c.requires.settled m is))) in
    let none : ones (map is_unknown whole) ≡ 0 = sym (ap ones c.in_ok-unknown.ensures.rows) ∙ sym c.count_ones-left.ensures.count ∙ c.if-left-eq0.true in
    none_checked m plan whole answered none

pub returns-then-left-eq0-clause-reads : goal.returns-then-left-eq0-clause-reads
returns-then-left-eq0-clause-reads g c m is = adds_none (g.S.Store.reads c.args.store.now) (g.S.Store.reads c.args.store.now) (is_allowed_in m c.args.plan.now) m.is_bitmap (true ≡ true) refl

pub returns-clause-steps : goal.returns-clause-steps
returns-clause-steps g c =
    let on = c.args.conditions.now in
    let plan = c.args.plan.now in
    let rows = g.C.Conditions.rows on in
    let whole = c.get-whole.result.now in
    let long : length whole ≡ rows = ap length c.get-whole.ensures ∙ c.in_ok-held.ensures.length ∙ c.rows.ensures.rows in
    let t = c.answers_of.new.steps in
    let first = subst (λ n. t ≤ c.args.steps.now + 2 * groups_and_rest n * (6 * parts_of plan)) c.rows.ensures.rows c.answers_of.ensures.steps in
    let second = subst (λ n. c.unknown_rows.new.steps ≤ t + 2 * groups_and_rest n) long c.unknown_rows.ensures.steps in
    let few = words_few rows c.in_ok-unknown.unknown (ap length c.in_ok-unknown.ensures.rows ∙ length-map whole is_unknown ∙ long) in
    cost_both (groups_and_rest rows) c.args.steps.now t c.count_ones-left.new.steps c.second_stage.new.steps (parts_of plan) (length c.args.atoms.now) first
    (omega (arith, second, few, c.count_ones-left.ensures.steps)) c.second_stage.ensures.steps
