use Rattle.std.proofs.Common.{arith}
use Rattle.wah_words.proofs.StoredLemmas.{stored_none, values_none}
use Rattle.wah_words.proofs.builder.Builder.with_room.Goals as goal

pub invariant_of-result : goal.invariant_of-result
invariant_of-result c = (rw c.in_ok-with_capacity.ensures.items stored_none, omega (arith, c.in_ok-with_capacity.ensures.exact, c.ranges.words.fits), λ t e. cc)

pub returns-clause-empty : goal.returns-clause-empty
returns-clause-empty c = rw c.in_ok-with_capacity.ensures.items values_none
