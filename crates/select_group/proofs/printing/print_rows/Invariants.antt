use Rattle.std.proofs.Common.{◌≡◌, ◌++◌, false, take}
use Rattle.csv.specs.Writing.{default_writer, fields_written, has_written, writer_pending, writer_setup, writer_under}
use Rattle.select_group.specs.Printed.{rows_text}
use Rattle.select_group.proofs.printing.print_rows.Given as goal

abbrev pub invariant-loop-row : goal.invariant-loop-row
invariant-loop-row l = record {
  text : (writer_under l.writer).items ++ writer_pending l.writer ≡ rows_text (take l.row-index l.rows);
  fields : fields_written l.writer ≡ 0;
  wrote : has_written l.writer ≡ false;
  setup : writer_setup l.writer ≡ default_writer;
}
