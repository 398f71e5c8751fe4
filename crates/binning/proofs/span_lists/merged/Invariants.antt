use Rattle.std.proofs.Common.{◌∷◌, take, drop, get_or, pos}
use Rattle.binning.specs.Joined.{Joined}
use Rattle.binning.proofs.span_lists.merged.Given as goal

abbrev pub invariant-loop-span : goal.invariant-loop-span
invariant-loop-span l = Joined l.items.items l.current (drop l.span-index l.spans) (get_or l.spans 0 (record { least = pos 0; greatest = pos 0 }) ∷ take l.span-index l.spans)
