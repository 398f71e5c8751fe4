use Rattle.std.proofs.Common.{◌+◌}
use Rattle.wah_logic.proofs.tests.pairs_of.Given as goal

abbrev pub decreases-loop-pair : goal.decreases-loop-pair
decreases-loop-pair g l = l.both.words + l.both.fills
