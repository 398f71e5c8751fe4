-- One column of a part that is written: where its files go, and its cells.
use Rattle.std.specs.Prelude.{◌≡◌, ◌+◌, ◌≤◌, ◌<◌, ◌^◌, ℕ, List, length, map, take, drop, Some, slice_get, slice_index_or}
use Rattle.std.specs.FinMap.{empty}
use Rattle.std.specs.List.{All}
use Rattle.fb_outside.specs.Names.{IsPath}
use Rattle.fb_outside.specs.Puts.{File}
use Rattle.fb_types.specs.declared.cells.Cell.{Cell}
use Rattle.fb_types.specs.declared.cells.Cell.TheVariants.{Null, Whole, Word}
use Rattle.fb_types.specs.declared.schemas.Column.{Column}
use Rattle.fb_types.specs.Cells.{CellFits}
use Rattle.fb_types.specs.Table.{Table}
use Rattle.part_meta.specs.declared.names.FileKind.{FileKind}
use Rattle.part_meta.specs.FileNames.{file_name}
use Rattle.text_column.specs.Words.{code_in, with_word}
use Rattle.world.specs.World.{Partition}
use Rattle.part_meta.specs.PartText.{most_rows}

-- the dataset's path, the part's number, the column, and its cells from the top
pub record ColumnOfPart : Type 0 where
  pub dir : List ℕ
  pub number : ℕ
  pub column : Column
  pub cells : List Cell

-- a part's number is below 4,096, and it has at most 4,194,304 rows
pub record IsColumnOfPart (part : ColumnOfPart) : Type 0 where
  pub path : IsPath part.dir
  pub number : part.number < 4096
  pub few : length part.cells ≤ most_rows
  pub fit : All (λ cell. CellFits cell part.column.ty) part.cells

abbrev pub cell_of : ColumnOfPart → ℕ → Cell
cell_of part row = slice_index_or part.cells row Null

-- the column's files of these kinds, with these bytes
abbrev pub file_in : ColumnOfPart → FileKind → List ℕ → File
file_in part kind bytes = record { name = file_name part.dir part.number (Some part.column.name) kind; bytes = bytes }

abbrev pub files_in : ColumnOfPart → List (FileKind × List ℕ) → List File
files_in part files = map (λ f. file_in part f.0 f.1) files

-- ---- the same as rows of a table

-- so many of a table's records, from one on
abbrev pub records_from : Table → (first rows : ℕ) → List (List Cell)
records_from table first rows = take rows (drop first table.records)

-- the table has this column at that place, and those rows
pub record IsCutFrom (table : Table) (column : Column) (col first rows : ℕ) : Type 0 where
  pub there : slice_get table.schema col ≡ Some column
  pub within : first + rows ≤ length table.records
  pub few : first + rows < 2 ^ 64

-- the words of a dictionary once this cell has been seen, too
abbrev pub with_cell : List (List ℕ) → Cell → List (List ℕ)
with_cell words Null = words
with_cell words (Whole number) = words
with_cell words (Word word) = with_word words word

-- the part of this number that has them, without an index
abbrev pub part_from : Table → (number first rows : ℕ) → Partition
part_from table number first rows = record { number = number; records = records_from table first rows; specs = empty }

-- the cell's number under these words: its word's code, or 0
abbrev pub IsCodeOf : List (List ℕ) → Cell → ℕ → Type 0
IsCodeOf words Null code = code ≡ 0
IsCodeOf words (Whole number) code = code ≡ 0
IsCodeOf words (Word word) code = code_in words word ≡ Some code
