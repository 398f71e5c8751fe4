use Rattle.std.proofs.Common.{◌≤◌, ◌-◌, length, drop}
use Rattle.binning.proofs.ListedLemmas.{Left}
use Rattle.binning.proofs.listed.bins_of_runs.Given as goal

abbrev pub invariant-loop-done : goal.invariant-loop-done
invariant-loop-done l = record {
  within : l.done ≤ length l.pairs;
  left : Left l.listed l.bins.items (drop l.done l.pairs);
}

abbrev pub decreases-loop-done : goal.decreases-loop-done
decreases-loop-done l = length l.pairs - l.done
