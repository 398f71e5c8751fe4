use Rattle.std.proofs.Common.{◌≡◌, ℕ, ◌+◌, ◌-◌, ◌*◌, ◌<◌, ◌≤◌, ◌++◌, List, ◌∷◌, length, map, take, drop, replicate, ap, sym, subst, ◌∙◌, rules, arith, OnOk}
use Rattle.std.specs.List.{flat_map}
use Rattle.std.proofs.lemmas.List.{length-map, length-replicate}
use Rattle.binning.specs.declared.against_bins.Three.TheVariants.{Yes}
use Rattle.wah_logic.specs.Logic.{groups_and_rest}
use Rattle.three_valued.specs.declared.connectives.Join.TheVariants as join
use Rattle.three_valued.specs.Tables.{joins, three_not, unit}
use Rattle.three_valued.specs.Plans.{atoms_of, parts_in, parts_of, three}
use Rattle.three_valued.specs.Rows.{columns, rowwise}
use Rattle.three_valued.specs.Held.{held_answers}
use Rattle.where_plan.specs.declared.plan.Plan.{Plan}
use Rattle.three_valued.proofs.RowLemmas.{length-rowwise}
use Rattle.three_valued.proofs.EvaluationLemmas.{HoldsParts, IsGroup, IsTurned, all_atoms, all_says, and_group, cost_first, cost_joined, cost_more, cost_next, cost_not, first_and_rest, first_part, group_answers, more_steps, next_part, no_more_parts, none_atoms, none_says, one_atoms, one_says, or_group, part_size, part_there, rest_cons, drop_over, size_from, turned, turned_says, within_cost, xor_group}
use Rattle.three_valued.proofs.evaluation.+combining.Goals as goal

pub combined-joined-requires : goal.combined-joined-requires
combined-joined-requires g t c κs within =
    let group = or_group c.args.plan.now c.in-Or.parts c.as_slice.result.now c.in-Or.is c.as_slice.ensures in
    let there : c.args.next.now + length (flat_map atoms_of c.as_slice.result.now) ≤ length c.args.answers.now = omega (arith, c.requires.there, ap length group.atoms) in
    let less : 3 * parts_in c.as_slice.result.now + 1 < t = omega (arith, group.size) in
    search (rules, there, less)

pub combined-returns-in-Or : goal.combined-returns-in-Or
combined-returns-in-Or g t c =
    let group = or_group c.args.plan.now c.in-Or.parts c.as_slice.result.now c.in-Or.is c.as_slice.ensures in
    record {
      next = subst (λ l. OnOk c.joined.result (c.joined.new.next ≡ c.args.next.now + length l)) (sym group.atoms) c.joined.ensures.next;
      length = c.joined.ensures.length;
      answers = group_answers c.joined.result join.Or c.as_slice.result.now c.args.plan.now c.args.rows c.args.answers.now c.args.next.now group c.joined.ensures.answers;
      steps = subst (λ n. c.joined.new.steps ≤ c.args.steps.now + 2 * groups_and_rest c.args.rows * (6 * n)) (sym group.size) c.joined.ensures.steps;
    }

pub combined-joined-requires-in-Xor : goal.combined-joined-requires-in-Xor
combined-joined-requires-in-Xor g t c κs within =
    let group = xor_group c.args.plan.now c.in-Xor.parts c.as_slice-in-Xor.result.now c.in-Xor.is c.as_slice-in-Xor.ensures in
    let there : c.args.next.now + length (flat_map atoms_of c.as_slice-in-Xor.result.now) ≤ length c.args.answers.now = omega (arith, c.requires.there, ap length group.atoms) in
    let less : 3 * parts_in c.as_slice-in-Xor.result.now + 1 < t = omega (arith, group.size) in
    search (rules, there, less)

pub combined-returns-in-Xor : goal.combined-returns-in-Xor
combined-returns-in-Xor g t c =
    let group = xor_group c.args.plan.now c.in-Xor.parts c.as_slice-in-Xor.result.now c.in-Xor.is c.as_slice-in-Xor.ensures in
    record {
      next = subst (λ l. OnOk c.joined-in-Xor.result (c.joined-in-Xor.new.next ≡ c.args.next.now + length l)) (sym group.atoms) c.joined-in-Xor.ensures.next;
      length = c.joined-in-Xor.ensures.length;
      answers = group_answers c.joined-in-Xor.result join.Xor c.as_slice-in-Xor.result.now c.args.plan.now c.args.rows c.args.answers.now c.args.next.now group c.joined-in-Xor.ensures.answers;
      steps = subst (λ n. c.joined-in-Xor.new.steps ≤ c.args.steps.now + 2 * groups_and_rest c.args.rows * (6 * n)) (sym group.size) c.joined-in-Xor.ensures.steps;
    }

pub combined-joined-requires-in-And : goal.combined-joined-requires-in-And
combined-joined-requires-in-And g t c κs within =
    let group = and_group c.args.plan.now c.in-And.parts c.as_slice-in-And.result.now c.in-And.is c.as_slice-in-And.ensures in
    let there : c.args.next.now + length (flat_map atoms_of c.as_slice-in-And.result.now) ≤ length c.args.answers.now = omega (arith, c.requires.there, ap length group.atoms) in
    let less : 3 * parts_in c.as_slice-in-And.result.now + 1 < t = omega (arith, group.size) in
    search (rules, there, less)

pub combined-returns-in-And : goal.combined-returns-in-And
combined-returns-in-And g t c =
    let group = and_group c.args.plan.now c.in-And.parts c.as_slice-in-And.result.now c.in-And.is c.as_slice-in-And.ensures in
    record {
      next = subst (λ l. OnOk c.joined-in-And.result (c.joined-in-And.new.next ≡ c.args.next.now + length l)) (sym group.atoms) c.joined-in-And.ensures.next;
      length = c.joined-in-And.ensures.length;
      answers = group_answers c.joined-in-And.result join.And c.as_slice-in-And.result.now c.args.plan.now c.args.rows c.args.answers.now c.args.next.now group c.joined-in-And.ensures.answers;
      steps = subst (λ n. c.joined-in-And.new.steps ≤ c.args.steps.now + 2 * groups_and_rest c.args.rows * (6 * n)) (sym group.size) c.joined-in-And.ensures.steps;
    }

pub combined-combined-requires : goal.combined-combined-requires
combined-combined-requires g t c κs within =
    let is = turned c.args.plan.now c.in-Not.part c.get.result.now c.in-Not.is c.get.ensures in
    let there : c.args.next.now + length (atoms_of c.get.result.now) ≤ length c.args.answers.now = omega (arith, c.requires.there, ap length is.atoms) in
    let less : 3 * parts_of c.get.result.now + 2 < t = omega (arith, is.size) in
    search (rules, there, less)

pub combined-bounds-answers-next : goal.combined-bounds-answers-next
combined-bounds-answers-next g t c = omega (arith, c.requires.there, one_atoms c.args.plan.now c.in-One.field-0 c.in-One.is)

pub combined-returns-in_ok-uniform-in-All : goal.combined-returns-in_ok-uniform-in-All
combined-returns-in_ok-uniform-in-All g t c =
    let none = all_atoms c.args.plan.now c.in-All.is in
    record {
      next = omega (arith, none);
      length = ap length c.in_ok-uniform-in-All.ensures ∙ length-replicate c.args.rows Yes;
      answers = λ answer more told. c.in_ok-uniform-in-All.ensures ∙ all_says c.args.plan.now c.args.rows answer c.in-All.is;
      steps = more_steps c.args.steps.now (2 * groups_and_rest c.args.rows * (6 * parts_of c.args.plan.now));
    }

pub combined-returns-in_ok-negated-in-Not : goal.combined-returns-in_ok-negated-in-Not
combined-returns-in_ok-negated-in-Not g t c =
    let part = c.get.result.now in
    let is = turned c.args.plan.now c.in-Not.part part c.in-Not.is c.get.ensures in
    let held = c.in_ok-held-in-Not.ensures in
    let long : length c.get-in-Not.result.now ≡ c.args.rows = ap length c.get-in-Not.ensures ∙ held.length in
    let turns : c.negated.new.steps ≤ c.combined.new.steps + 2 * groups_and_rest c.args.rows = subst (λ n. c.negated.new.steps ≤ c.combined.new.steps + 2 * groups_and_rest n) long c.negated.ensures.steps in
    record {
      next = held.next ∙ ap (λ l. c.args.next.now + length l) (sym is.atoms);
      length = ap length c.in_ok-negated-in-Not.ensures.answers ∙ length-map c.get-in-Not.result.now three_not ∙ long;
      answers = λ answer more told. c.in_ok-negated-in-Not.ensures.answers ∙ turned_says part c.args.plan.now c.args.rows answer c.get-in-Not.result.now is (c.get-in-Not.ensures ∙ held.answers answer more (told ∙ ap (λ l. columns c.args.rows answer l ++ more) is.atoms));
      steps = subst (λ n. c.negated.new.steps ≤ c.args.steps.now + 2 * groups_and_rest c.args.rows * (6 * n)) (sym is.size) (cost_not (groups_and_rest c.args.rows) c.args.steps.now c.combined.new.steps c.negated.new.steps (parts_of part) c.combined.ensures.steps turns);
    }

pub combined-returns-in_err-held-in-Not-clause-steps : goal.combined-returns-in_err-held-in-Not-clause-steps
combined-returns-in_err-held-in-Not-clause-steps g t c =
    let part = c.get.result.now in
    let is = turned c.args.plan.now c.in-Not.part part c.in-Not.is c.get.ensures in
    subst (λ n. c.combined.new.steps ≤ c.args.steps.now + 2 * groups_and_rest c.args.rows * (6 * n)) (sym is.size) (cost_more (groups_and_rest c.args.rows) c.args.steps.now c.combined.new.steps (parts_of part) c.combined.ensures.steps)

pub combined-returns-in_err-negated-in-Not-clause-steps : goal.combined-returns-in_err-negated-in-Not-clause-steps
combined-returns-in_err-negated-in-Not-clause-steps g t c =
    let part = c.get.result.now in
    let is = turned c.args.plan.now c.in-Not.part part c.in-Not.is c.get.ensures in
    let long : length c.get-in-Not.result.now ≡ c.args.rows = ap length c.get-in-Not.ensures ∙ c.in_ok-held-in-Not.ensures.length in
    let turns : c.negated.new.steps ≤ c.combined.new.steps + 2 * groups_and_rest c.args.rows = subst (λ n. c.negated.new.steps ≤ c.combined.new.steps + 2 * groups_and_rest n) long c.negated.ensures.steps in
    subst (λ n. c.negated.new.steps ≤ c.args.steps.now + 2 * groups_and_rest c.args.rows * (6 * n)) (sym is.size) (cost_not (groups_and_rest c.args.rows) c.args.steps.now c.combined.new.steps c.negated.new.steps (parts_of part) c.combined.ensures.steps turns)

pub combined-returns-in-One : goal.combined-returns-in-One
combined-returns-in-One g t c =
    let one = one_atoms c.args.plan.now c.in-One.field-0 c.in-One.is in
    let below : c.args.next.now < length c.args.answers.now = omega (arith, c.requires.there, one) in
    record {
      next = omega (arith, one);
      length = ap length c.index-answers-next.is ∙ c.requires.long c.args.next.now c.index-answers-next.result below;
      answers = λ answer more told. one_says c.args.plan.now c.in-One.field-0 c.args.rows c.args.answers.now c.args.next.now c.index-answers-next.result answer more c.in-One.is below c.index-answers-next.is told;
      steps = more_steps c.args.steps.now (2 * groups_and_rest c.args.rows * (6 * parts_of c.args.plan.now));
    }

pub joined-combined-requires : goal.joined-combined-requires
joined-combined-requires g t c κs within =
    let parts = c.args.parts.now in
    let first = c.first-item.result in
    let rest = take (length parts - 1) (drop 1 parts) in
    let whole : parts ≡ first ∷ rest = first_and_rest parts first c.in-len1-up.len_at_least c.first-item.is in
    let there : c.args.next.now + length (atoms_of first) ≤ length c.args.answers.now = omega (arith, c.requires.there, part_there parts first rest whole) in
    let less : 3 * parts_of first + 2 < t = omega (arith, part_size parts first rest whole) in
    search (rules, there, less)

pub joined-with_part-requires : goal.joined-with_part-requires
joined-with_part-requires g t c κs within =
    let parts = c.args.parts.now in
    let rest = take (length parts - 1) (drop 1 parts) in
    let k = c.loop-part.part-index in
    let part = c.part-item.result in
    let cons = rest_cons rest k part c.loop-part-test.true c.part-item.is in
    let before = c.loop-part.invariant.held in
    let whole : parts ≡ c.first-item.result ∷ rest = first_and_rest parts c.first-item.result c.in-len1-up.len_at_least c.first-item.is in
    let there : c.loop-part.next + length (atoms_of part) ≤ length c.args.answers.now = omega (arith, c.requires.there, before.cursor, part_there (drop k rest) part (drop (k + 1) rest) cons) in
    let less : 3 * parts_of part + 3 < t = omega (arith, part_size parts c.first-item.result rest whole, size_from rest k, part_size (drop k rest) part (drop (k + 1) rest) cons) in
    let same = before.long in
    search (rules, there, less, same)

pub joined-loop-part-init : goal.joined-loop-part-init
joined-loop-part-init g t c =
    let parts = c.args.parts.now in
    let first = c.first-item.result in
    let rest = take (length parts - 1) (drop 1 parts) in
    let whole : parts ≡ first ∷ rest = first_and_rest parts first c.in-len1-up.len_at_least c.first-item.is in
    let G = groups_and_rest c.args.rows in
    let made = c.in_ok-held-in-len1-up in
    record {
      held = first_part c.args.join c.args.rows c.args.answers.now c.args.next.now parts (held_answers made.held) c.combined.new.next first rest whole made.ensures.next made.ensures.length made.ensures.answers;
      cost = subst (λ n. c.combined.new.steps + 2 * G * (6 * parts_in rest) ≤ c.args.steps.now + 2 * G * (6 * n)) (sym (part_size parts first rest whole)) (cost_first G c.args.steps.now c.combined.new.steps (parts_of first) (parts_in rest) c.combined.ensures.steps);
    }

pub joined-loop-part-preserved : goal.joined-loop-part-preserved
joined-loop-part-preserved g t c =
    let parts = c.args.parts.now in
    let rest = take (length parts - 1) (drop 1 parts) in
    let k = c.loop-part.part-index in
    let part = c.part-item.result in
    let more = drop (k + 1) rest in
    let cons = rest_cons rest k part c.loop-part-test.true c.part-item.is in
    let before = c.loop-part.invariant in
    let held = held_answers c.loop-part.held in
    let made = c.in_ok-held-in-len1-up-2 in
    let G = groups_and_rest c.args.rows in
    record {
      held = next_part c.args.join c.args.rows c.args.answers.now c.args.next.now parts held (held_answers made.held) c.loop-part.next c.with_part.new.next part more (subst (λ (l : List Plan). HoldsParts c.args.join c.args.rows c.args.answers.now c.args.next.now parts held c.loop-part.next l) cons before.held) made.ensures.next made.ensures.length made.ensures.answers;
      cost = cost_next G c.args.steps.now c.loop-part.steps c.with_part.new.steps (parts_of part) (parts_in more) (parts_in parts) (subst (λ n. c.loop-part.steps + 2 * G * (6 * n) ≤ c.args.steps.now + 2 * G * (6 * parts_in parts)) (part_size (drop k rest) part more cons) before.cost) c.with_part.ensures.steps;
    }

pub joined-returns-after-loop-part : goal.joined-returns-after-loop-part
joined-returns-after-loop-part g t c =
    let parts = c.args.parts.now in
    let rest = take (length parts - 1) (drop 1 parts) in
    let k = c.loop-part.part-index in
    let before = c.loop-part.invariant in
    let last = no_more_parts c.args.join c.args.rows c.args.answers.now c.args.next.now parts (held_answers c.loop-part.held) c.loop-part.next (drop k rest) (drop_over k rest c.loop-part-test.false) before.held in
    record {
      next = last.0;
      length = before.held.long;
      answers = last.1;
      steps = within_cost c.loop-part.steps (2 * groups_and_rest c.args.rows * (6 * parts_in (drop k rest))) (c.args.steps.now + 2 * groups_and_rest c.args.rows * (6 * parts_in parts)) before.cost;
    }

pub joined-returns-in_ok-uniform-in-empty : goal.joined-returns-in_ok-uniform-in-empty
joined-returns-in_ok-uniform-in-empty g t c =
    let parts = c.args.parts.now in
    let none = none_atoms parts c.in-empty.len_below in
    let same = c.in_ok-uniform-in-empty.ensures ∙ ap (replicate c.args.rows) c.of_none.ensures in
    record {
      next = omega (arith, none);
      length = ap length same ∙ length-replicate c.args.rows (unit c.args.join);
      answers = λ answer more told. same ∙ none_says c.args.join parts c.args.rows answer c.in-empty.len_below;
      steps = more_steps c.args.steps.now (2 * groups_and_rest c.args.rows * (6 * parts_in parts));
    }

pub joined-returns-in_err-held-in-len1-up-clause-steps : goal.joined-returns-in_err-held-in-len1-up-clause-steps
joined-returns-in_err-held-in-len1-up-clause-steps g t c =
    let parts = c.args.parts.now in
    let first = c.first-item.result in
    let rest = take (length parts - 1) (drop 1 parts) in
    let whole : parts ≡ first ∷ rest = first_and_rest parts first c.in-len1-up.len_at_least c.first-item.is in
    let G = groups_and_rest c.args.rows in
    let all = subst (λ n. c.combined.new.steps + 2 * G * (6 * parts_in rest) ≤ c.args.steps.now + 2 * G * (6 * n)) (sym (part_size parts first rest whole)) (cost_first G c.args.steps.now c.combined.new.steps (parts_of first) (parts_in rest) c.combined.ensures.steps) in
    within_cost c.combined.new.steps (2 * G * (6 * parts_in rest)) (c.args.steps.now + 2 * G * (6 * parts_in parts)) all

pub joined-returns-in_err-held-in-len1-up-2-clause-steps : goal.joined-returns-in_err-held-in-len1-up-2-clause-steps
joined-returns-in_err-held-in-len1-up-2-clause-steps g t c =
    let parts = c.args.parts.now in
    let rest = take (length parts - 1) (drop 1 parts) in
    let k = c.loop-part.part-index in
    let part = c.part-item.result in
    let more = drop (k + 1) rest in
    let cons = rest_cons rest k part c.loop-part-test.true c.part-item.is in
    let G = groups_and_rest c.args.rows in
    let all = cost_next G c.args.steps.now c.loop-part.steps c.with_part.new.steps (parts_of part) (parts_in more) (parts_in parts) (subst (λ n. c.loop-part.steps + 2 * G * (6 * n) ≤ c.args.steps.now + 2 * G * (6 * parts_in parts)) (part_size (drop k rest) part more cons) c.loop-part.invariant.cost) c.with_part.ensures.steps in
    within_cost c.with_part.new.steps (2 * G * (6 * parts_in more)) (c.args.steps.now + 2 * G * (6 * parts_in parts)) all

pub with_part-combined-requires : goal.with_part-combined-requires
with_part-combined-requires g t c κs within =
    let less : 3 * parts_of c.args.part.now + 2 < t = omega arith in
    let there = c.requires.there in
    search (rules, there, less)

pub with_part-returns-in_err-other-clause-steps : goal.with_part-returns-in_err-other-clause-steps
with_part-returns-in_err-other-clause-steps g t c = cost_more (groups_and_rest c.args.rows) c.args.steps.now c.combined.new.steps (parts_of c.args.part.now) c.combined.ensures.steps

pub with_part-join_two-requires : goal.with_part-join_two-requires
with_part-join_two-requires g t c = ap length c.get.ensures ∙ c.requires.same ∙ sym (ap length c.get-2.ensures ∙ c.in_ok-other.ensures.length)

pub with_part-returns-in_err-join_two-clause-steps : goal.with_part-returns-in_err-join_two-clause-steps
with_part-returns-in_err-join_two-clause-steps g t c =
    let G = groups_and_rest c.args.rows in
    let long : length c.get.result.now ≡ c.args.rows = ap length c.get.ensures ∙ c.requires.same in
    cost_joined G c.args.steps.now c.combined.new.steps c.join_two.new.steps (parts_of c.args.part.now) c.combined.ensures.steps (subst (λ n. c.join_two.new.steps ≤ c.combined.new.steps + 12 * groups_and_rest n) long c.join_two.ensures.steps)

pub with_part-returns : goal.with_part-returns
with_part-returns g t c =
    let G = groups_and_rest c.args.rows in
    let a = c.get.result.now in
    let b = c.get-2.result.now in
    let table = joins c.args.join in
    let long : length a ≡ c.args.rows = ap length c.get.ensures ∙ c.requires.same in
    let also : length b ≡ c.args.rows = ap length c.get-2.ensures ∙ c.in_ok-other.ensures.length in
    record {
      next = c.in_ok-other.ensures.next;
      length = ap length c.in_ok-join_two.ensures.answers ∙ length-rowwise table a b (long ∙ sym also) ∙ long;
      answers = λ answer more told. c.in_ok-join_two.ensures.answers ∙ ap (λ l. rowwise table l b) c.get.ensures ∙ ap (rowwise table (held_answers c.args.held)) (c.get-2.ensures ∙ c.in_ok-other.ensures.answers answer more told);
      steps = cost_joined G c.args.steps.now c.combined.new.steps c.join_two.new.steps (parts_of c.args.part.now) c.combined.ensures.steps (subst (λ n. c.join_two.new.steps ≤ c.combined.new.steps + 12 * groups_and_rest n) long c.join_two.ensures.steps);
    }
