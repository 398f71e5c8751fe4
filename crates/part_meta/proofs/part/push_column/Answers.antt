use Rattle.std.proofs.Common.{codes}
use Rattle.fb_types.specs.Types.{type_name}
use Rattle.part_meta.specs.PartText.{column_begin_line, column_end_line, name_line, type_line}
use Rattle.part_meta.proofs.PrintLemmas.{column-joined}
use Rattle.part_meta.proofs.part.push_column.Goals as goal

pub returns : goal.returns
unfolding column_begin_line name_line type_line column_end_line
returns c =
    rw (c.in_ok-extend_from_slice-5.ensures.items, c.in_ok-extend_from_slice-4.ensures.items, c.in_ok-extend_from_slice-3.ensures.items, c.in_ok-extend_from_slice-2.ensures.items, c.in_ok-extend_from_slice.ensures.items, c.as_bytes.ensures.value, c.name.ensures, c.bytes.ensures.value)
    (column-joined c.args.text.now.items (codes "Begin Column\n") (codes "name = ") c.args.column.now.name (codes "data_type = ") (type_name c.args.column.now.ty) (codes "End Column\n"))
