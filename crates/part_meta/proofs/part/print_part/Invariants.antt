use Rattle.std.proofs.Common.{◌≡◌, ◌++◌, take, length}
use Rattle.std.specs.List.{flat_map}
use Rattle.part_meta.specs.Lines.{joined}
use Rattle.part_meta.specs.PartText.{column_lines, header_lines}
use Rattle.part_meta.proofs.part.print_part.Given as goal

abbrev pub invariant-loop-column : goal.invariant-loop-column
invariant-loop-column l =
    l.text.items ≡ joined (header_lines l.fn.part.number l.fn.part.rows (length l.columns)) ++ flat_map (λ column. joined (column_lines column)) (take l.column-index l.columns)
