-- What stands behind a column's name in the name of its file.
use Rattle.std.specs.Prelude.{ℕ, List, []}
use lib.Chars.{codes}
use Rattle.part_meta.specs.declared.names.FileKind.{FileKind}
use Rattle.part_meta.specs.declared.names.FileKind.TheVariants.{PartText, Values, Mask, Words, Starts, Index}

abbrev pub suffix : FileKind → List ℕ
suffix PartText = codes "-part.txt"
suffix Values = []
suffix Mask = codes ".msk"
suffix Words = codes ".dic"
suffix Starts = codes ".sp"
suffix Index = codes ".idx"
