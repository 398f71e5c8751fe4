-- A table: records of cells under a schema.
use Rattle.std.specs.Prelude.{ℕ, List, [], ◌∷◌, ◌++◌, IsSome, IsNone, IsSomeAnd, slice_get, slice_index_or}
use Rattle.std.specs.List.{All}
use Rattle.fb_types.specs.declared.cells.Cell.{Cell}
use Rattle.fb_types.specs.declared.cells.Cell.TheVariants.{Null}
use Rattle.fb_types.specs.declared.schemas.Column.{Column}
use Rattle.fb_types.specs.Cells.{RecordFits}
use Rattle.fb_types.specs.Types.{ends_of}

pub record Table : Type 0 where
  pub schema : List Column
  pub records : List (List Cell)

abbrev pub empty_table : List Column → Table
empty_table schema = record { schema = schema; records = [] }

abbrev pub add_record : Table → List Cell → Table
add_record table cells = record { schema = table.schema; records = table.records ++ cells ∷ [] }

-- each record fits the schema
abbrev pub AllFit : Table → Type 0
AllFit table = All (λ cells. RecordFits cells table.schema) table.records

-- the cell of a row and a column, both from 0
abbrev pub cell_at : Table → ℕ → ℕ → Cell
cell_at table row col = slice_index_or (slice_index_or table.records row []) col Null

-- the schema has a column there, of a whole type
abbrev pub IsWholeColumn : List Column → ℕ → Type 0
IsWholeColumn columns col = IsSomeAnd (slice_get columns col) (λ column. IsSome (ends_of column.ty))

-- and a category or a text column
abbrev pub IsWordColumn : List Column → ℕ → Type 0
IsWordColumn columns col = IsSomeAnd (slice_get columns col) (λ column. IsNone (ends_of column.ty))
