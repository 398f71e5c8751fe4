use Rattle.std.proofs.Common.{take}
use Rattle.text_column.specs.TextFiles.{AreFilesOf}
use Rattle.world.specs.Cells.{texts_of}
use Rattle.dataset.proofs.gathering.texts_of.Given as goal

abbrev pub invariant-loop-row : goal.invariant-loop-row
invariant-loop-row l = AreFilesOf l.files (texts_of (take l.row l.part.cells))
