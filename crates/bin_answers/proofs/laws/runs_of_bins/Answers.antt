use Rattle.std.proofs.Common.{refl}
use Rattle.bin_answers.specs.BinRuns.{runs_from}
use Rattle.bin_answers.proofs.RunLemmas.{are_runs}
use Rattle.bin_answers.proofs.laws.runs_of_bins.Goals as goal

pub returns-clause-runs : goal.returns-clause-runs
returns-clause-runs c = are_runs

pub returns-clause-few : goal.returns-clause-few
unfolding runs_from
returns-clause-few c = refl

pub returns-clause-more : goal.returns-clause-more
unfolding runs_from
returns-clause-more c = refl
