use Rattle.std.proofs.Common.{◌≡◌, take}
use Rattle.bin_answers.specs.BinRuns.{runs_of}
use Rattle.bin_answers.specs.Bins.{edges_say}
use Rattle.bin_answers.proofs.bin_runs.bin_runs.Given as goal

abbrev pub invariant-loop-place : goal.invariant-loop-place
invariant-loop-place l = l.runs.items ≡ runs_of (edges_say (take l.place l.bins) l.spans)
