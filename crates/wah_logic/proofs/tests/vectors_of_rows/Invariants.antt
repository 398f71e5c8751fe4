use Rattle.std.proofs.Common.{◌≡◌, All, length}
use Rattle.wah_logic.proofs.tests.vectors_of_rows.Given as goal

abbrev pub invariant-loop-place : goal.invariant-loop-place
invariant-loop-place l = All (λ v. length v ≡ 1000) l.vectors.items
