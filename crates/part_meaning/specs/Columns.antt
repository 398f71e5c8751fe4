-- The columns of a part, and their bins.
use Rattle.std.specs.Prelude.{ℕ, ℤ, Bool, List, [], ◌∷◌, Option, Some, None, if◌then◌else◌, map, pos, slice_index_or}
use Rattle.std.specs.FinMap.{get}
use Rattle.std.specs.List.{list_any}
use Rattle.fb_types.specs.declared.cells.Cell.{Cell}
use Rattle.fb_types.specs.declared.cells.Cell.TheVariants.{Null}
use Rattle.fb_types.specs.declared.schemas.Column.{Column}
use Rattle.fb_types.specs.declared.types.ColType.{ColType}
use Rattle.fb_types.specs.declared.types.ColType.TheVariants.{Text}
use Rattle.fb_types.specs.Types.{ends_of}
use Rattle.index_spec.specs.declared.spec.Spec.{Spec}
use Rattle.binning.specs.declared.gathering.Bin.{Bin}
use Rattle.binning.specs.declared.span_lists.Span.{Span}
use Rattle.where_plan.specs.SpansOf.{code_range, span}
use Rattle.world.specs.Cells.{column_cells, dictionary_of, is_present, stored_numbers}
use Rattle.world.specs.IndexFiles.{column_bins}
use Rattle.world.specs.World.{Partition}

-- a column of a part: its name and type, how it is indexed if it is, and its cells from the top
pub record PartColumn : Type 0 where
  pub name : List ℕ
  pub ty : ColType
  pub spec : Option Spec
  pub cells : List Cell

-- what stands where the schema has no column
abbrev pub no_column : Column
no_column = record { name = []; ty = Text }

-- the column at a place of the schema
unfoldable pub column_at : List Column → Partition → ℕ → PartColumn
column_at schema part col = record {
  name = (slice_index_or schema col no_column).name;
  ty = (slice_index_or schema col no_column).ty;
  spec = get part.specs col;
  cells = column_cells col part.records;
}

-- ---- rows

abbrev pub cell_of_row : PartColumn → ℕ → Cell
cell_of_row column row = slice_index_or column.cells row Null

-- the rows that have a value
abbrev pub present_rows : PartColumn → List Bool
present_rows column = map is_present column.cells

-- the number of a row's value: its own, or the code of its word
abbrev pub number_of_row : PartColumn → ℕ → ℤ
number_of_row column row = slice_index_or (stored_numbers column.ty column.cells) row (pos 0)

-- ---- bins

abbrev pub ends_or : Option (ℤ × ℤ) → Span → Span
ends_or None codes = codes
ends_or (Some ends) codes = span ends.0 ends.1

-- between which numbers a column's values lie as far as its type tells: those of the type, or the codes of its words
unfoldable pub ends_in : ColType → List Cell → Span
ends_in ty cells = ends_or (ends_of ty) (code_range (dictionary_of cells))

-- one bin of these rows; none where there is no row
unfoldable pub one_bin : Span → List Bool → List Bin
one_bin ends rows =
    if list_any (λ b. b) rows then record { least = ends.least; greatest = ends.greatest; rows = rows } ∷ [] else []

abbrev pub bins_under : Option Spec → ColType → List Cell → List Bin
bins_under None ty cells = one_bin (ends_in ty cells) (map is_present cells)
bins_under (Some spec) ty cells = column_bins spec ty cells

-- the bins of a column: those of its specification, or without one a single bin of all rows that have a value
unfoldable pub bins_in : PartColumn → List Bin
bins_in column = bins_under column.spec column.ty column.cells
