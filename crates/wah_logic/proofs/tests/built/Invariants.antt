use Rattle.std.proofs.Common.{◌≡◌, false}
use Rattle.wah_logic.proofs.tests.built.Given as goal

abbrev pub invariant-loop-value : goal.invariant-loop-value
invariant-loop-value l = l.builder.has_tail ≡ false
