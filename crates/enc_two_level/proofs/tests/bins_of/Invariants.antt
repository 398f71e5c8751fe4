use Rattle.std.proofs.Common.{◌≡◌, All, length}
use Rattle.enc_two_level.proofs.tests.bins_of.Given as goal

abbrev pub invariant-loop-k : goal.invariant-loop-k
invariant-loop-k l = record {
  long : All (λ b. length b.rows ≡ 40) l.bins.items;
  number : length l.bins.items ≡ l.k;
}
