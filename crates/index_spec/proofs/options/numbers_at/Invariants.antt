use Rattle.std.proofs.Common.{◌≡◌, length}
use Rattle.index_spec.specs.Options.{numbers_at, numbers_before}
use Rattle.index_spec.proofs.options.numbers_at.Given as goal

abbrev pub invariant-loop-rest : goal.invariant-loop-rest
invariant-loop-rest l = numbers_at l.tokens ≡ numbers_before l.numbers (numbers_at l.rest)

abbrev pub decreases-loop-rest : goal.decreases-loop-rest
decreases-loop-rest l = length l.rest
