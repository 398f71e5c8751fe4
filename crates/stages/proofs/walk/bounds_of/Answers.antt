use Rattle.std.proofs.Common.{◌≡◌, ℕ, ◌+◌, ◌*◌, ◌≤◌, length, ap, ◌∙◌, arith}
use Rattle.std.proofs.lemmas.List.{length-map}
use Rattle.std.proofs.lemmas.List.Sums.{count_by-le-length}
use Rattle.wah_logic.specs.Logic.{groups_and_rest}
use Rattle.wah_logic.proofs.UnionLemmas.{words_few}
use Rattle.three_valued.specs.Plans.{parts_of}
use Rattle.three_valued.specs.Tables.{is_possible, is_yes}
use Rattle.stages.proofs.walk.bounds_of.Goals as goal

cost : (g s t u v a : ℕ) → t ≤ s + 2 * g * (6 * a) → u ≤ t + g → v ≤ u + g → v ≤ s + 2 * g * (6 * a + 1)
cost g s t u v a h k l =
    let z : 2 * g * (6 * a + 1) ≡ 2 * g * (6 * a) + 2 * g = grind arith in
    omega (arith, h, k, l, z)

pub returns-clause-steps : goal.returns-clause-steps
returns-clause-steps g c =
    let rows = c.args.rows in
    let whole = c.get-whole.result.now in
    let long : length whole ≡ rows = ap length c.get-whole.ensures ∙ c.in_ok-held.ensures.length in
    let first = words_few rows c.definite.result.now (ap length c.definite.ensures ∙ length-map whole is_yes ∙ long) in
    let second = words_few rows c.possible.result.now (ap length c.possible.ensures ∙ length-map whole is_possible ∙ long) in
    cost (groups_and_rest rows) c.args.steps.now c.answers_of.new.steps c.count_ones-definite.new.steps c.count_ones-possible.new.steps (parts_of c.args.plan.now) c.answers_of.ensures.steps
    (omega (arith, c.count_ones-definite.ensures.steps, first)) (omega (arith, c.count_ones-possible.ensures.steps, second))

pub returns-clause-few : goal.returns-clause-few
returns-clause-few g c =
    let rows = c.args.rows in
    let whole = c.get-whole.result.now in
    let long : length whole ≡ rows = ap length c.get-whole.ensures ∙ c.in_ok-held.ensures.length in
    let definite : length c.definite.result.now ≡ rows = ap length c.definite.ensures ∙ length-map whole is_yes ∙ long in
    let possible : length c.possible.result.now ≡ rows = ap length c.possible.ensures ∙ length-map whole is_possible ∙ long in (
      omega (arith, c.count_ones-definite.ensures.count, count_by-le-length (λ b. b) c.definite.result.now, definite),
      omega (arith, c.count_ones-possible.ensures.count, count_by-le-length (λ b. b) c.possible.result.now, possible),
    )
