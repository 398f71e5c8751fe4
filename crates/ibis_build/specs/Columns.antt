-- Which columns are indexed, by their places in the schema: those that a list names, or else all that can be.
use Rattle.std.specs.Prelude.{◌≡◌, ◌≢◌, ℕ, Bool, false, not, ◌==◌, List, [], ◌∷◌, ◌++◌, filter, map, Option, Some, None, is_some, Result, Ok, Err, IsSome, slice_get, if◌then◌else◌}
use Rattle.std.specs.List.{AllPairs, AllZip, enumerate_from, list_any}
use Rattle.std.specs.Option.{option_and_then, option_map_or}
use Rattle.fb_types.specs.declared.schemas.Column.{Column}
use Rattle.fb_types.specs.Field.{trimmed}
use Rattle.fb_types.specs.Names.{column_name}
use Rattle.fb_types.specs.SchemaText.{SpellsName, items_of}
use Rattle.fb_types.specs.Schemas.{place_of}
use Rattle.fb_types.specs.Types.{width_of}
use Rattle.index_spec.specs.declared.spec.SpecKind.TheVariants.{Unknown, WrongType, Repeated}
use Rattle.statuses.specs.declared.Status.{Status}
use Rattle.statuses.specs.declared.Status.TheVariants.{BadSpec}
use Rattle.statuses.specs.Outcome.{◌>>=◌}

-- a column can have an index where its type has a width, which a text has not
abbrev pub can_have_index : Column → Bool
can_have_index column = is_some (width_of column.ty)

-- there is such a column at that place
abbrev pub can_have_index_at : List Column → ℕ → Bool
can_have_index_at schema col = option_map_or can_have_index (slice_get schema col) false

-- ---- without a list: all that can, in the schema's order

abbrev pub every_column : List Column → List ℕ
every_column schema = map (λ c. c.0) (filter (λ c. can_have_index c.1) (enumerate_from 0 schema))

-- ---- with one: names joined by commas, with blanks round them, in letters of either case

-- the place of the column that a piece between commas names
abbrev pub place_in : List Column → List ℕ → Option ℕ
place_in schema piece = option_and_then (place_of schema) (column_name (trimmed piece))

-- a piece is refused where it names no column, one that can't have an index, or one that stands before it
abbrev pub column_or_refusal : List Column → (before : List ℕ) → Option ℕ → Result ℕ Status
column_or_refusal schema before None = Err (BadSpec Unknown)
column_or_refusal schema before (Some col) =
    if not (can_have_index_at schema col) then Err (BadSpec WrongType)
    else (if list_any (λ other. other == col) before then Err (BadSpec Repeated) else Ok col)

-- the columns before, and those of the pieces behind them; or the refusal of the first piece that is refused
unfoldable pub columns_behind : List Column → (before : List ℕ) → (pieces : List (List ℕ)) → Result (List ℕ) Status
columns_behind schema before [] = Ok before
columns_behind schema before (piece ∷ pieces) = do
  col ← column_or_refusal schema before (place_in schema piece)
  columns_behind schema (before ++ col ∷ []) pieces

abbrev pub listed_columns : List Column → (list : List ℕ) → Result (List ℕ) Status
listed_columns schema list = columns_behind schema [] (items_of list)

abbrev pub chosen_columns : List Column → (list : Option (List ℕ)) → Result (List ℕ) Status
chosen_columns schema None = Ok (every_column schema)
chosen_columns schema (Some list) = listed_columns schema list

-- ---- the same as a relation

-- the piece spells the name of the column at that place, which can have an index
pub record NamesColumn (schema : List Column) (piece : List ℕ) (col : ℕ) : Type 0 where
  pub column : Column
  pub in_schema : slice_get schema col ≡ Some column
  pub named : SpellsName piece column.name
  pub width : IsSome (width_of column.ty)

-- the list has a piece for each of these columns, in their order, and none stands twice
pub record Lists (schema : List Column) (list : List ℕ) (cols : List ℕ) : Type 0 where
  pub each : AllZip (NamesColumn schema) (items_of list) cols
  pub distinct : AllPairs (λ a b. a ≢ b) cols
