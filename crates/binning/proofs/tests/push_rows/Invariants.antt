use Rattle.std.proofs.Common.{length}
use Rattle.binning.proofs.tests.push_rows.Given as goal

abbrev pub decreases-loop-row : goal.decreases-loop-row
decreases-loop-row g l = length l.walk.rows
