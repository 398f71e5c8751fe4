-- A column of numbers or codes whose candidates are read.
use Rattle.std.specs.Prelude.{◌≡◌, ◌≢◌, ◌-◌, ◌*◌, ◌<◌, ⊤, ℕ, ℤ, Bool, List, Option, Some, length, map}
use Rattle.std.specs.List.{All}
use Rattle.fb_outside.specs.Files.{Files, told_at}
use Rattle.fb_outside.specs.Reads.{Look}
use Rattle.column_file.specs.Values.{ValueFits, values_bytes, width_in}
use Rattle.column_file.specs.declared.column.ColumnRef.{ColumnRef}
use Rattle.column_file.specs.declared.fault.ColFault.TheVariants as why
use Rattle.binning.specs.Spans.{has}
use Rattle.binning.specs.declared.span_lists.Span.{Span}
use Rattle.candidates.specs.declared.fault.FindFault.{FindFault}
use Rattle.candidates.specs.declared.fault.FindFault.TheVariants.{Values, OutOfMemory}

-- the values file of an open column has these numbers, one a row
pub record HasNumbers (files : Option Files) (column : ColumnRef) (numbers : List ℤ) : Type 0 where
  pub told : told_at files column.name ≡ Some (values_bytes column.ty numbers)
  pub fit : All (λ number. ValueFits number column.ty) numbers
  pub rows : length numbers ≡ column.rows

-- whether each row's number is in the spans, over a file that has numbers
pub record AreNumberTests (files : Option Files) (column : ColumnRef) (spans : List Span) (tests : List Bool) : Type 0 where
  pub numbers : List ℤ
  pub there : HasNumbers files column numbers
  pub are : tests ≡ map (has spans) numbers

-- the bytes of rows from one up to another
abbrev pub numbers_look : ColumnRef → ℕ × ℕ → Look
numbers_look column rows =
    record { name = column.name; offset = rows.0 * width_in column.ty; room = (rows.1 - rows.0) * width_in column.ty }

-- the store failed, memory ran out, or the values file hasn't the length that its rows ask for
abbrev pub StopsNumbers : Option Files → ColumnRef → FindFault → Type 0
StopsNumbers files opened (Values why.Store) = ⊤
StopsNumbers files opened (Values (why.WrongLength want have)) =
    (have < want) × ((bytes : List ℕ) → told_at files opened.name ≡ Some bytes → length bytes ≢ opened.rows * width_in opened.ty)
StopsNumbers files opened OutOfMemory = ⊤
StopsNumbers files opened fault = ⊥
