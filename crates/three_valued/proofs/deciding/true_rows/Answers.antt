use Rattle.std.proofs.Common.{◌≡◌, ℕ, ◌+◌, ◌*◌, ◌≤◌, Bool, List, [], length, map, sym, ap, subst, ◌∙◌}
use Rattle.std.proofs.lemmas.List.{length-map}
use Rattle.std.proofs.lemmas.Result.{IfOk-weaker}
use Rattle.binning.specs.declared.against_bins.Three.{Three}
use Rattle.where_plan.specs.declared.plan.PlanAtom.{PlanAtom}
use Rattle.wah_logic.specs.Logic.{each_place, groups_and_rest, or}
use Rattle.three_valued.specs.Tables.{is_yes}
use Rattle.three_valued.specs.Plans.{atoms_of, is_true, parts_of, three}
use Rattle.three_valued.specs.Rows.{columns, each_row}
use Rattle.three_valued.specs.Deciding.{Decides}
use Rattle.three_valued.proofs.DecidingLemmas.{cost_true, decided_rows, rows_from, told_from_start}
use Rattle.three_valued.proofs.deciding.true_rows.Goals as goal

pub returns-clause-rows : goal.returns-clause-rows
returns-clause-rows g c =
    let whole = c.args.whole.now in
    let plan = c.args.plan.now in
    let n = length whole in
    let same : c.len.result ≡ n = c.len.ensures.length in
    IfOk-weaker c.combined-3.result
    (λ v. v ≡ each_place or c.definite-2.result.now c.in_ok-decided.decided)
    (λ v. (answer : ℕ → PlanAtom → Three) (truth : ℕ → PlanAtom → Bool) → c.args.exact.now ≡ columns n answer (atoms_of plan) → Decides plan whole answer truth → v ≡ each_row n (λ row. is_true (truth row) plan))
    (λ v is answer truth told decides.
    let again : c.get.result.now ≡ each_row n (λ row. three (answer row) plan) =
    c.get.ensures ∙ c.in_ok-again.ensures.answers answer [] (told_from_start c.len.result n answer (atoms_of plan) c.args.exact.now same told) ∙ ap (λ k. each_row k (λ row. three (answer row) plan)) same in
    rows_from v c.definite-2.result.now c.in_ok-decided.decided c.definite.result.now c.args.unknown.now whole c.get.result.now is c.definite-2.ensures c.in_ok-decided.ensures.values c.definite.ensures
    ∙ decided_rows plan whole c.get.result.now c.args.unknown.now answer truth c.requires.unknown again decides)
    c.combined-3.ensures.values

pub returns-clause-length : goal.returns-clause-length
returns-clause-length g c =
    let long = ap length c.definite-2.ensures ∙ length-map c.args.whole.now is_yes in
    IfOk-weaker c.combined-3.result (λ v. length v ≡ length c.definite-2.result.now) (λ v. length v ≡ length c.args.whole.now) (λ v is. is ∙ long) c.combined-3.ensures.length

pub returns-clause-steps : goal.returns-clause-steps
returns-clause-steps g c =
    let n = length c.args.whole.now in
    let again : length c.definite.result.now ≡ n = ap length c.definite.ensures ∙ length-map c.get.result.now is_yes ∙ ap length c.get.ensures ∙ c.in_ok-again.ensures.length ∙ c.len.ensures.length in
    let whole : length c.definite-2.result.now ≡ n = ap length c.definite-2.ensures ∙ length-map c.args.whole.now is_yes in
    cost_true (groups_and_rest n) c.args.steps.now c.combined.new.steps c.combined-2.new.steps c.combined-3.new.steps (parts_of c.args.plan.now)
    (subst (λ k. c.combined.new.steps ≤ c.args.steps.now + 2 * groups_and_rest k * (6 * parts_of c.args.plan.now)) c.len.ensures.length c.combined.ensures.steps)
    (subst (λ k. c.combined-2.new.steps ≤ c.combined.new.steps + 2 * groups_and_rest k) again c.combined-2.ensures.groups)
    (subst (λ k. c.combined-3.new.steps ≤ c.combined-2.new.steps + 2 * groups_and_rest k) whole c.combined-3.ensures.groups)
