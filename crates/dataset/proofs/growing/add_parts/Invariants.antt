use Rattle.std.proofs.Common.{◌≡◌}
use Rattle.dataset.specs.Growing.{with_parts}
use Rattle.dataset.proofs.GrowingLemmas.{added}
use Rattle.dataset.proofs.growing.add_parts.Given as goal

abbrev pub invariant-loop-place : goal.invariant-loop-place
invariant-loop-place l =
    l.dataset ≡ with_parts l.initial.dataset (added l.columns.schema l.next l.per_part l.columns.records l.place)
