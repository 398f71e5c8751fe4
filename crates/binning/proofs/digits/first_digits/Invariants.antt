use Rattle.std.proofs.Common.{◌+◌, ◌-◌}
use Rattle.binning.proofs.DigitLemmas.{IsUnit}
use Rattle.binning.proofs.digits.first_digits.Given as goal

abbrev pub invariant-loop-unit : goal.invariant-loop-unit
invariant-loop-unit l = IsUnit l.fn.digits l.n l.unit

abbrev pub decreases-loop-unit : goal.decreases-loop-unit
decreases-loop-unit l = l.n + 1 - l.unit
