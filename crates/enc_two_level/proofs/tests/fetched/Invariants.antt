use Rattle.std.proofs.Common.{◌≡◌, All, length}
use Rattle.enc_two_level.proofs.tests.fetched.Given as goal

abbrev pub invariant-loop-place : goal.invariant-loop-place
invariant-loop-place g l = record {
  long : All (λ b. length b ≡ 40) l.all.items;
  number : length l.all.items ≡ l.place-index;
}
