use Rattle.std.proofs.Common.{length}
use Rattle.wah_iter.proofs.tests.rows_in.Given as goal

abbrev pub decreases-loop-row : goal.decreases-loop-row
decreases-loop-row g l = length l.walk.rows
