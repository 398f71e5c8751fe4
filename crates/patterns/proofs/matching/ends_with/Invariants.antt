use Rattle.std.proofs.Common.{◌≡◌, length}
use Rattle.patterns.specs.Like.{stands_last}
use Rattle.patterns.proofs.matching.ends_with.Given as goal

abbrev pub invariant-loop-rest : goal.invariant-loop-rest
invariant-loop-rest l = stands_last l.piece l.text ≡ stands_last l.piece l.rest

abbrev pub decreases-loop-rest : goal.decreases-loop-rest
decreases-loop-rest l = length l.rest
