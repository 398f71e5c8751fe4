-- What is left are the records after those that were read past.
use Rattle.std.proofs.Common.{◌≡◌, drop}
use Rattle.csv_load.specs.RowsLeft.{IsPlain, rows_left}
use Rattle.csv_load.proofs.rows.skip_rows.Given as goal

abbrev pub invariant-loop : goal.invariant-loop
invariant-loop l = record {
  plain : IsPlain l.rdr;
  rows : drop l.counter (rows_left l.fn.rdr) ≡ rows_left l.rdr;
}
