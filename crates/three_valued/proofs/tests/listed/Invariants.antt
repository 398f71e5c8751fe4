use Rattle.std.proofs.Common.{◌≡◌, All, length}
use Rattle.three_valued.proofs.tests.listed.Given as goal

abbrev pub invariant-loop-bits : goal.invariant-loop-bits
invariant-loop-bits g l = record {
  long : All (λ a. length a ≡ 9) l.all.items;
  number : length l.all.items ≡ l.bits-index;
}
