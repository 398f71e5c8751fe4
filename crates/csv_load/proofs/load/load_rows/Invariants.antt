-- The records so far stand in front of those that are left.
use Rattle.std.proofs.Common.{◌≡◌, ◌+◌, ◌^◌, ◌<◌, length, map}
use Rattle.csv_load.specs.Loaded.{all_or_first, behind, record_cells}
use Rattle.csv_load.specs.RowsLeft.{IsPlain, rows_left}
use Rattle.csv_load.proofs.load.load_rows.Given as goal

abbrev pub invariant-loop-row : goal.invariant-loop-row
invariant-loop-row l = record {
  plain : IsPlain l.rdr;
  schema : l.columns.schema ≡ l.schema;
  split : all_or_first (l.skipped + 1) (map (record_cells l.schema) (rows_left l.fn.rdr))
      ≡ behind l.columns.records (all_or_first (l.number + 1) (map (record_cells l.schema) (rows_left l.rdr)));
  fits : 0 < length (rows_left l.rdr) → l.number + length (rows_left l.rdr) < 2 ^ 64;
}

abbrev pub decreases-loop-row : goal.decreases-loop-row
decreases-loop-row l = length (rows_left l.rdr)
