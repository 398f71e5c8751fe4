use Rattle.std.proofs.Common.{take}
use Rattle.fb_types.specs.Cells.{RecordFits}
use Rattle.fb_types.proofs.cells.record_fits.Given as goal

abbrev pub invariant-loop-at : goal.invariant-loop-at
invariant-loop-at l = RecordFits (take l.at l.cells) (take l.at l.columns)
