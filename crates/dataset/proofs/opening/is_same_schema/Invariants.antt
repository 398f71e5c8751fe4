-- The columns so far are the same.
use Rattle.std.proofs.Common.{◌≡◌, take}
use Rattle.dataset.proofs.opening.is_same_schema.Given as goal

abbrev pub invariant-loop-i : goal.invariant-loop-i
invariant-loop-i l = take l.i l.columns ≡ take l.i l.others
