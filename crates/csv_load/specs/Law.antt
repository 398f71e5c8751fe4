-- What `loaded` says, told without going through the records one by one.
use Rattle.std.specs.Prelude.{⊤, ◌+◌, ℕ, List, Result, drop, map}
pub use Rattle.fb_types.specs.AllOrFirst.{StopsAt}
use Rattle.fb_types.specs.declared.cells.Cell.{Cell}
use Rattle.fb_types.specs.declared.schemas.Column.{Column}
use Rattle.csv_load.specs.Loaded.{record_cells, text_records}
use Rattle.csv_load.specs.declared.fields.RecordKind.{RecordKind}
use Rattle.csv_load.specs.declared.load.RecordFault.{RecordFault}
use Rattle.csv_load.specs.declared.load.RecordFault.TheVariants as at_record

-- what each kept record of a text gives under a schema: its cells, or its first bad field
abbrev pub each_record : List ℕ → List Column → ℕ → List (Result (List Cell) (ℕ × RecordKind))
each_record bytes columns skip = map (record_cells columns) (drop skip (text_records bytes))

-- each record before the fault has its cells, and the fault's has that bad field first
abbrev pub IsFirstFault : RecordFault → List ℕ → List Column → ℕ → Type 0
IsFirstFault (at_record.Bad number field kind) bytes columns skip =
    StopsAt (skip + 1) (each_record bytes columns skip) number (field, kind)
IsFirstFault at_record.OutOfMemory bytes columns skip = ⊤
