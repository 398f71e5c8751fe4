use Rattle.std.proofs.Common.{◌≡◌, ◌+◌, ◌*◌, ◌≤◌, length}
use Rattle.where_grammar.specs.Parsing.{bare}
use Rattle.where_grammar.proofs.Joints.{part_of, parts_here, rank}
use Rattle.where_grammar.proofs.Lists.{put_items, with_item}
use Rattle.where_grammar.proofs.parsing.+clauses.Given as goal

abbrev pub decreases-enclosed : goal.decreases-enclosed
decreases-enclosed l = 16 * l.depth

abbrev pub decreases-unit : goal.decreases-unit
decreases-unit l = 16 * l.depth + 1

abbrev pub decreases-negated : goal.decreases-negated
decreases-negated l = 16 * l.depth + 2

abbrev pub decreases-nots : goal.decreases-nots
decreases-nots l = 16 * l.depth + 3

abbrev pub decreases-part_from : goal.decreases-part_from
decreases-part_from l = 16 * l.depth + (3 * rank l.join + 4)

abbrev pub decreases-part : goal.decreases-part
decreases-part l = 16 * l.depth + (3 * rank l.join + 5)

abbrev pub decreases-more_joined : goal.decreases-more_joined
decreases-more_joined l = 16 * l.depth + (3 * rank l.join + 6)

abbrev pub decreases-joined : goal.decreases-joined
decreases-joined l = 16 * l.depth + 13

abbrev pub invariant-more_joined-loop-behind : goal.invariant-more_joined-loop-behind
invariant-more_joined-loop-behind l = record {
  so_far : put_items l.parts (parts_here l.join (part_of l.join l.depth) (bare l.rest)) ≡ with_item l.fn.first (parts_here l.join (part_of l.join l.depth) (bare l.tokens));
  some : 1 ≤ length l.parts;
  first_alone : length l.parts ≡ 1 → bare l.rest ≡ bare l.tokens;
}

abbrev pub decreases-more_joined-loop-behind : goal.decreases-more_joined-loop-behind
decreases-more_joined-loop-behind l = length l.rest
