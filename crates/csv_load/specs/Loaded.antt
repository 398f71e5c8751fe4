-- The records that a load keeps of a CSV text, or its first fault.
use Rattle.std.specs.Prelude.{◌==◌, ◌+◌, ℕ, List, [], ◌∷◌, Result, Ok, Err, drop, if◌then◌else◌, is_some, length, map, min, nat_le}
use Rattle.csv.specs.Reading.{default_config, records, strip_bom}
unfoldable pub use Rattle.fb_types.specs.AllOrFirst.{all_or_first}
pub use Rattle.fb_types.specs.AllOrFirst.{behind}
use Rattle.fb_types.specs.Field.{field_answer}
use Rattle.fb_types.specs.Types.{ends_of}
use Rattle.fb_types.specs.declared.cells.Cell.{Cell}
use Rattle.fb_types.specs.declared.cells.Cell.TheVariants as cell
use Rattle.fb_types.specs.declared.fields.FieldAnswer.{FieldAnswer}
use Rattle.fb_types.specs.declared.fields.FieldAnswer.TheVariants as says
use Rattle.fb_types.specs.declared.schemas.Column.{Column}
use Rattle.fb_types.specs.declared.types.ColType.{ColType}
use Rattle.csv_load.specs.declared.fields.RecordKind.{RecordKind}
use Rattle.csv_load.specs.declared.fields.RecordKind.TheVariants.{FieldCount, NotWhole, OutOfRange, TextLength}

-- the records of a text, each a list of fields, as `csv` defines them: no header, commas, double quotes, records of any
-- lengths. A byte order mark at the start is dropped, and a blank line is no record.
abbrev pub text_records : List ℕ → List (List (List ℕ))
text_records bytes = records default_config (strip_bom bytes)

-- the cell of a field of a whole column: null where it is blank
abbrev pub whole_cell : FieldAnswer → Result Cell RecordKind
whole_cell says.Null = Ok cell.Null
whole_cell (says.Value number) = Ok (cell.Whole number)
whole_cell says.NotWhole = Err NotWhole
whole_cell says.OutOfRange = Err OutOfRange

-- the cell of a field of a category or text column: its bytes as they stand, and null where there are none
abbrev pub word_cell : List ℕ → Result Cell RecordKind
word_cell [] = Ok cell.Null
word_cell (b ∷ bs) = if nat_le (length (b ∷ bs)) 65535 then Ok (cell.Word (b ∷ bs)) else Err TextLength

-- the cell of a field by the type of its column, or what is wrong with the field
unfoldable pub field_cell : ColType → List ℕ → Result Cell RecordKind
field_cell ty field = if is_some (ends_of ty) then whole_cell (field_answer field ty) else word_cell field

-- the same of the first field in the first column, the second in the second, and so on
unfoldable pub field_cells : List Column → List (List ℕ) → List (Result Cell RecordKind)
field_cells [] fields = []
field_cells (column ∷ columns) [] = []
field_cells (column ∷ columns) (field ∷ fields) = field_cell column.ty field ∷ field_cells columns fields

-- the cells of a record, or its first bad field, counted from 1. Where there isn't one field for each column, that is the
-- first field that is missing or too many.
unfoldable pub record_cells : List Column → List (List ℕ) → Result (List Cell) (ℕ × RecordKind)
record_cells columns fields =
    if length fields == length columns then all_or_first 1 (field_cells columns fields)
    else Err (min (length fields) (length columns) + 1, FieldCount)

-- the first fault of a text: the record and its field, both counted from 1 in the whole text, and what is wrong
pub record Fault : Type 0 where
  pub number : ℕ
  pub field : ℕ
  pub kind : RecordKind

abbrev pub or_fault : Result (List (List Cell)) (ℕ × (ℕ × RecordKind)) → Result (List (List Cell)) Fault
or_fault (Ok rows) = Ok rows
or_fault (Err (number, (field, kind))) = Err (record { number = number; field = field; kind = kind })

-- the cells of these records, which count from n, or the first fault
abbrev pub loaded_from : ℕ → List Column → List (List (List ℕ)) → Result (List (List Cell)) Fault
loaded_from n columns rows = or_fault (all_or_first n (map (record_cells columns) rows))

-- the cells of a text's records without the first `skip`, which may be anything, or the first fault
unfoldable pub loaded : List ℕ → List Column → ℕ → Result (List (List Cell)) Fault
loaded bytes columns skip = loaded_from (skip + 1) columns (drop skip (text_records bytes))
