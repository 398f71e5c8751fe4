use Rattle.std.proofs.Common.{◌≡◌, ◌≤◌, ◌++◌}
use Rattle.wah_words.specs.Places.{places}
use Rattle.binning.proofs.masks.append_places.Given as goal

abbrev pub invariant-loop-left : goal.invariant-loop-left
invariant-loop-left l = (l.left ≤ 31) × (l.present.items ++ places l.left l.bits ≡ l.initial.present.items ++ places l.fn.count l.bits)

abbrev pub decreases-loop-left : goal.decreases-loop-left
decreases-loop-left l = l.left
