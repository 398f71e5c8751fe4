use Rattle.std.proofs.Common.{codes, decimal}
use Rattle.part_meta.specs.PartText.{count_line, header_begin_line, header_end_line, number_line, rows_line}
use Rattle.part_meta.proofs.PrintLemmas.{header-joined}
use Rattle.part_meta.proofs.part.header.Goals as goal

pub returns : goal.returns
unfolding header_begin_line rows_line count_line header_end_line
returns c =
    rw (c.in_ok-extend_from_slice.ensures.items, c.in_ok-push_number.ensures, c.in_ok-text.ensures.items, c.as_bytes.ensures.value, c.in_ok-numbers.ensures.ok)
    (header-joined (codes "BEGIN HEADER\n") (number_line c.args.number) (codes "Number_of_rows = ") (decimal c.args.rows) (codes "Number_of_columns = ") (decimal c.args.count) (codes "END HEADER\n"))
