use Rattle.std.proofs.Common.{◌≡◌, ◌+◌, ◌-◌, ◌≤◌, length, drop}
use Rattle.binning.specs.Listed.{run_length, run_of_first}
use Rattle.binning.proofs.listed.run_len.Given as goal

abbrev pub invariant-loop-run : goal.invariant-loop-run
invariant-loop-run l = record {
  within : l.run ≤ length l.pairs;
  run : run_of_first l.pairs ≡ l.run + run_length l.value (drop l.run l.pairs);
}

abbrev pub decreases-loop-run : goal.decreases-loop-run
decreases-loop-run l = length l.pairs - l.run
