use Rattle.std.proofs.Common.{◌≡◌, false}
use Rattle.candidates.proofs.tests.built.Given as goal

abbrev pub invariant-loop : goal.invariant-loop
invariant-loop l = l.builder.has_tail ≡ false

abbrev pub invariant-loop-bit : goal.invariant-loop-bit
invariant-loop-bit l = l.builder.has_tail ≡ false
