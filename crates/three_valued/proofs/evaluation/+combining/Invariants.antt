use Rattle.std.proofs.Common.{◌+◌, ◌*◌, ◌≤◌, drop, length}
use Rattle.wah_logic.specs.Logic.{groups_and_rest}
use Rattle.three_valued.specs.Plans.{parts_in, parts_of}
use Rattle.three_valued.specs.Held.{held_answers}
use Rattle.three_valued.proofs.EvaluationLemmas.{HoldsParts}
use Rattle.three_valued.proofs.evaluation.+combining.Given as goal

abbrev pub invariant-joined-loop-part : goal.invariant-joined-loop-part
invariant-joined-loop-part g l = record {
  held : HoldsParts l.join l.rows l.answers l.fn.next l.parts (held_answers l.held) l.next (drop l.part-index l.rest);
  cost : l.steps + 2 * groups_and_rest l.rows * (6 * parts_in (drop l.part-index l.rest)) ≤ l.fn.steps + 2 * groups_and_rest l.rows * (6 * parts_in l.parts);
}

abbrev pub decreases-combined : goal.decreases-combined
decreases-combined g l = 3 * parts_of l.plan.now + 2

abbrev pub decreases-joined : goal.decreases-joined
decreases-joined g l = 3 * parts_in l.parts.now + 1

abbrev pub decreases-with_part : goal.decreases-with_part
decreases-with_part g l = 3 * parts_of l.part.now + 3
