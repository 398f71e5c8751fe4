use Rattle.std.proofs.Common.{length}
use Rattle.wah_logic.proofs.unions.+or_halves.Given as goal

-- the list, which both halves are shorter than
abbrev pub decreases-or_halves : goal.decreases-or_halves
decreases-or_halves g l = length l.list.now
