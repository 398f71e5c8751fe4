use Rattle.std.proofs.Common.{◌≡◌, ◌*◌, All, length}
use Rattle.wah_logic.proofs.tests.first_of_each_group.Given as goal

abbrev pub invariant-loop-place : goal.invariant-loop-place
invariant-loop-place l = All (λ v. length v ≡ 31 * l.groups) l.vectors.items
