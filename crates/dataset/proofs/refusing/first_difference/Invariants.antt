use Rattle.std.proofs.Common.{◌≡◌, ◌≤◌, length, drop}
use Rattle.dataset.specs.Appended.{first_difference}
use Rattle.dataset.proofs.RefusalLemmas.{from_place}
use Rattle.dataset.proofs.refusing.first_difference.Given as goal

abbrev pub invariant-loop-col : goal.invariant-loop-col
invariant-loop-col l = record {
  so_far : first_difference l.ours l.given ≡ from_place l.col (first_difference (drop l.col l.ours) (drop l.col l.given));
  within : l.col ≤ length l.given;
}
