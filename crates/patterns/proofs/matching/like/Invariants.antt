use Rattle.std.proofs.Common.{◌≡◌, length}
use Rattle.std.specs.List.{list_any}
use Rattle.patterns.specs.Like.{like, pieces_of, rests_of}
use Rattle.patterns.proofs.LikeLemmas.{in_order}
use Rattle.patterns.proofs.matching.like.Given as goal

abbrev pub invariant-loop-piece : goal.invariant-loop-piece
invariant-loop-piece l = like l.pattern l.text ≡ list_any (in_order (pieces_of l.pieces)) (rests_of l.rest)

abbrev pub decreases-loop-piece : goal.decreases-loop-piece
decreases-loop-piece l = length l.pieces
