use Rattle.std.proofs.Common.{◌≡◌, length}
use Rattle.patterns.specs.Like.{next_character}
use Rattle.patterns.proofs.matching.behind_character.Given as goal

abbrev pub invariant-loop-rest : goal.invariant-loop-rest
invariant-loop-rest l = next_character l.text ≡ next_character l.rest

abbrev pub decreases-loop-rest : goal.decreases-loop-rest
decreases-loop-rest l = length l.rest
