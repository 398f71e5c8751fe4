use Rattle.std.proofs.Common.{◌≡◌, length}
use Rattle.patterns.specs.Like.{behind_first}
use Rattle.patterns.proofs.matching.text_behind_first.Given as goal

abbrev pub invariant-loop-rest : goal.invariant-loop-rest
invariant-loop-rest l = behind_first l.piece l.text ≡ behind_first l.piece l.rest

abbrev pub decreases-loop-rest : goal.decreases-loop-rest
decreases-loop-rest l = length l.rest
