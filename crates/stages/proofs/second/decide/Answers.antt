use Rattle.std.proofs.Common.{◌≡◌, ℕ, ◌+◌, ◌*◌, ◌≤◌, length, map, refl, sym, ap, subst, ◌∙◌, arith}
use Rattle.std.proofs.lemmas.List.{length-map}
use Rattle.wah_logic.specs.Logic.{and, each_place, groups_and_rest, or}
use Rattle.wah_logic.proofs.JoinLemmas.{length-each}
use Rattle.wah_logic.proofs.UnionLemmas.{words_few}
use Rattle.three_valued.specs.Tables.{decided, is_yes}
use Rattle.stages.proofs.LookLemmas.{adds_none}
use Rattle.stages.proofs.SecondLemmas.{candidates_long, candidates_unknown}
use Rattle.stages.proofs.second.decide.Goals as goal

pub returns-in_err-rows-clause-reads : goal.returns-in_err-rows-clause-reads
returns-in_err-rows-clause-reads g c m is = adds_none _ _ _ _ _ refl

pub find-requires-clause-length : goal.find-requires-clause-length
find-requires-clause-length g c =
    candidates_long (g.C.Conditions.rows c.args.conditions.now) c.args.answers.now c.args.unknown.now c.in_ok-rows.rows c.requires.length c.requires.long c.in_ok-rows.ensures.rows

pub find-requires-clause-unknown : goal.find-requires-clause-unknown
find-requires-clause-unknown g c m is = candidates_unknown m c.args.atom.now c.args.answers.now c.args.unknown.now c.in_ok-rows.rows (c.requires.settled m is) c.in_ok-rows.ensures.rows

cost : (g s t u v w : ℕ) → t ≤ s + 4 * g → u ≤ t + g → v ≤ u + 2 * g → w ≤ v + 4 * g → (v ≤ s + 2 * g * 8) × (w ≤ s + 2 * g * 8)
cost g s t u v w h k l n = (omega (arith, h, k, l), omega (arith, h, k, l, n))

pub returns-in_err-found-clause-steps : goal.returns-in_err-found-clause-steps
returns-in_err-found-clause-steps g c =
    let rows = g.C.Conditions.rows c.args.conditions.now in
    let few = words_few rows c.in_ok-rows.rows (candidates_long rows c.args.answers.now c.args.unknown.now c.in_ok-rows.rows c.requires.length c.requires.long c.in_ok-rows.ensures.rows) in
    let first = subst (λ n. c.candidates.new.steps ≤ c.args.steps.now + 4 * groups_and_rest n) c.requires.length c.candidates.ensures.steps in
    let both = cost (groups_and_rest rows) c.args.steps.now c.candidates.new.steps c.count_ones-checked.new.steps c.find.new.steps c.find.new.steps first (omega (arith, c.count_ones-checked.ensures.steps, few)) c.find.ensures.steps
    (omega arith) in
    both.0

pub returns-in_err-answers-clause-steps : goal.returns-in_err-answers-clause-steps
returns-in_err-answers-clause-steps g c =
    let rows = g.C.Conditions.rows c.args.conditions.now in
    let few = words_few rows c.in_ok-rows.rows (candidates_long rows c.args.answers.now c.args.unknown.now c.in_ok-rows.rows c.requires.length c.requires.long c.in_ok-rows.ensures.rows) in
    let first = subst (λ n. c.candidates.new.steps ≤ c.args.steps.now + 4 * groups_and_rest n) c.requires.length c.candidates.ensures.steps in
    let both = cost (groups_and_rest rows) c.args.steps.now c.candidates.new.steps c.count_ones-checked.new.steps c.find.new.steps c.exact.new.steps first (omega (arith, c.count_ones-checked.ensures.steps, few)) c.find.ensures.steps
    (subst (λ n. c.exact.new.steps ≤ c.find.new.steps + 4 * groups_and_rest n) c.requires.length c.exact.ensures.steps) in
    both.1

pub returns-clause-steps : goal.returns-clause-steps
returns-clause-steps g c =
    let rows = g.C.Conditions.rows c.args.conditions.now in
    let few = words_few rows c.in_ok-rows.rows (candidates_long rows c.args.answers.now c.args.unknown.now c.in_ok-rows.rows c.requires.length c.requires.long c.in_ok-rows.ensures.rows) in
    let first = subst (λ n. c.candidates.new.steps ≤ c.args.steps.now + 4 * groups_and_rest n) c.requires.length c.candidates.ensures.steps in
    let both = cost (groups_and_rest rows) c.args.steps.now c.candidates.new.steps c.count_ones-checked.new.steps c.find.new.steps c.exact.new.steps first (omega (arith, c.count_ones-checked.ensures.steps, few)) c.find.ensures.steps
    (subst (λ n. c.exact.new.steps ≤ c.find.new.steps + 4 * groups_and_rest n) c.requires.length c.exact.ensures.steps) in
    both.1

pub returns-clause-length : goal.returns-clause-length
returns-clause-length g c =
    let answers = c.args.answers.now in
    let unknown = c.args.unknown.now in
    let yes = map is_yes answers in
    let found = c.in_ok-found.found in
    let long = length-map answers is_yes in
    let inner : length (each_place and yes unknown) ≡ length answers = length-each and yes unknown (long ∙ c.requires.length ∙ sym c.requires.long) ∙ long in
    ap length c.in_ok-answers.ensures.answers ∙ length-map (each_place or (each_place and yes unknown) found) decided
    ∙ length-each or (each_place and yes unknown) found (inner ∙ c.requires.length ∙ sym c.in_ok-found.ensures.length) ∙ inner ∙ c.requires.length
