use Rattle.std.proofs.Common.{take}
use Rattle.text_column.specs.TextFiles.{AreFilesOf}
use Rattle.text_column.proofs.text_files.text_bytes.Given as goal

abbrev pub invariant-loop-text : goal.invariant-loop-text
invariant-loop-text l = AreFilesOf l.files (take l.text-index l.texts)
