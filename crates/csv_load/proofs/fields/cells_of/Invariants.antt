-- The cells so far stand in front of those of the columns and fields that are left.
use Rattle.std.proofs.Common.{◌≡◌, ◌+◌, drop, take}
use Rattle.csv.specs.Records.{fields_of}
use Rattle.fb_types.specs.Cells.{RecordFits}
use Rattle.csv_load.specs.Loaded.{all_or_first, behind, field_cells}
use Rattle.csv_load.proofs.fields.cells_of.Given as goal

abbrev pub invariant-loop-index : goal.invariant-loop-index
invariant-loop-index l = record {
  split : all_or_first 1 (field_cells l.columns (fields_of l.row))
      ≡ behind l.cells.items (all_or_first (l.index + 1) (field_cells (drop l.index l.columns) (drop l.index (fields_of l.row))));
  fits : RecordFits l.cells.items (take l.index l.columns);
}
