-- What the answers of a load tell of its definition.
use Rattle.std.specs.Prelude.{◌≡◌, ⊤, ℕ, List, Result, Ok, Err}
use Rattle.fb_types.specs.declared.cells.Cell.{Cell}
use Rattle.csv_load.specs.Loaded.{Fault}
use Rattle.csv_load.specs.declared.fields.FieldFault.{FieldFault}
use Rattle.csv_load.specs.declared.fields.FieldFault.TheVariants as at_field
use Rattle.csv_load.specs.declared.load.RecordFault.{RecordFault}
use Rattle.csv_load.specs.declared.load.RecordFault.TheVariants as at_record
use Rattle.csv_load.specs.declared.fields.RecordKind.{RecordKind}

-- a value, or why it is missing with the number of its place
abbrev pub numbered : {A E : Type 0} → ℕ → Result A E → Result A (ℕ × E)
numbered n (Ok value) = Ok value
numbered n (Err why) = Err (n, why)

-- the answer is the fault that is defined, unless memory ran out
abbrev pub IsFieldFault : {A : Type 0} → FieldFault → Result A (ℕ × RecordKind) → Type 0
IsFieldFault (at_field.Bad field kind) defined = defined ≡ Err (field, kind)
IsFieldFault at_field.OutOfMemory defined = ⊤

abbrev pub IsRecordFault : RecordFault → Result (List (List Cell)) Fault → Type 0
IsRecordFault (at_record.Bad number field kind) defined = defined ≡ Err (record { number = number; field = field; kind = kind })
IsRecordFault at_record.OutOfMemory defined = ⊤

-- the fault of a field, as that of the record of that number
abbrev pub at_number : ℕ → FieldFault → RecordFault
at_number number (at_field.Bad field kind) = at_record.Bad number field kind
at_number number at_field.OutOfMemory = at_record.OutOfMemory
