-- A flat list of cells, cut into records.
use Rattle.std.specs.Prelude.{◌≡◌, ℕ, zero, suc, ◌*◌, ◌^◌, ◌<◌, List, [], ◌∷◌, length, take, drop}
use Rattle.fb_types.specs.declared.cells.Cell.{Cell}
use Rattle.fb_types.specs.declared.schemas.Column.{Column}
use Rattle.fb_types.specs.Schemas.{IsSchema}
use Rattle.fb_types.specs.Table.{Table, AllFit}

-- the first so many records of a width
abbrev pub rows_of : ℕ → ℕ → List Cell → List (List Cell)
rows_of width zero cells = []
rows_of width (suc rows) cells = take width cells ∷ rows_of width rows (drop width cells)

abbrev pub table_of : List Column → ℕ → List Cell → Table
table_of schema rows cells = record { schema = schema; records = rows_of (length schema) rows cells }

-- the cells are those of whole records that fit a schema, and few enough to be counted
pub record IsLaidOut (schema : List Column) (rows : ℕ) (cells : List Cell) : Type 0 where
  pub valid : IsSchema schema
  pub whole : length cells ≡ rows * length schema
  pub few : length cells < 2 ^ 64
  pub fits : AllFit (table_of schema rows cells)
