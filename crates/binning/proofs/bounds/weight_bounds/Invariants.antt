use Rattle.binning.proofs.BoundLemmas.{weight_bound, IsCut}
use Rattle.binning.proofs.bounds.weight_bounds.Given as goal

abbrev pub invariant-loop-j : goal.invariant-loop-j
invariant-loop-j l = IsCut (weight_bound l.count l.sorted) 1 l.count l.j l.bounds.items
