use Rattle.std.proofs.Common.{length}
use Rattle.wah_iter.proofs.tests.runs_in.Given as goal

abbrev pub decreases-loop-run : goal.decreases-loop-run
decreases-loop-run g l = length l.walk.runs
