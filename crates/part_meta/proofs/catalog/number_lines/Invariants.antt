use Rattle.std.proofs.Common.{◌≡◌, ◌++◌, take, decimal, string_bytes}
use Rattle.std.specs.List.{flat_map}
use lib.Chars.{codes}
use Rattle.part_meta.specs.CatalogText.{part_line}
use Rattle.part_meta.specs.Lines.{line}
use Rattle.part_meta.proofs.catalog.number_lines.Given as goal

abbrev pub invariant-loop-part : goal.invariant-loop-part
invariant-loop-part l = string_bytes l.lines ≡ line (codes "next " ++ decimal l.next) ++ flat_map part_line (take l.part-index l.parts)
