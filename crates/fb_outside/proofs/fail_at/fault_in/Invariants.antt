use Rattle.std.proofs.Common.{◌≡◌, drop}
use Rattle.fb_outside.specs.Memory.{fault_at}
use Rattle.fb_outside.proofs.fail_at.fault_in.Given as goal

-- none of the entries so far is of this call
abbrev pub invariant-loop-fail : goal.invariant-loop-fail
invariant-loop-fail l = fault_at (drop l.fail-index l.fails) l.call ≡ fault_at l.fails l.call
