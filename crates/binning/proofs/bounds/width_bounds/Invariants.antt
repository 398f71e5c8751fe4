use Rattle.std.proofs.Common.{◌+◌}
use Rattle.binning.proofs.BoundLemmas.{width_bound, IsCut}
use Rattle.binning.proofs.bounds.width_bounds.Given as goal

abbrev pub invariant-loop-j : goal.invariant-loop-j
invariant-loop-j l = IsCut (width_bound l.start l.end l.count) 0 (l.count + 1) l.j l.bounds.items
