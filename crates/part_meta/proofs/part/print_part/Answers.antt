use Rattle.std.proofs.Common.{◌≡◌, ◌++◌, length, take, ap, ◌∙◌, sym, arith, take_all}
use Rattle.std.specs.List.{flat_map}
use Rattle.part_meta.specs.Lines.{joined}
use Rattle.part_meta.specs.PartText.{column_lines, header_lines}
use Rattle.part_meta.proofs.PrintLemmas.{part-joined}
use Rattle.part_meta.proofs.part.print_part.Goals as goal

pub returns : goal.returns
returns c =
    let columns = c.columns-columns.result.now in
    let part = c.args.part.now in
    let all : take c.loop-column.column-index columns ≡ columns = take_all c.loop-column.column-index columns (omega arith) in
    c.loop-column.invariant ∙ ap (λ cs. joined (header_lines part.number part.rows (length columns)) ++ flat_map (λ column. joined (column_lines column)) cs) all
    ∙ ap (λ cs. joined (header_lines part.number part.rows (length cs)) ++ flat_map (λ column. joined (column_lines column)) cs) c.columns-columns.ensures.value
    ∙ sym (part-joined part)
