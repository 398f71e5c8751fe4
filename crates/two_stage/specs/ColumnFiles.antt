-- Files that are those of a column.
use Rattle.std.specs.Prelude.{◌≡◌, ◌≤ℤ◌, ℕ, List, length, map, Option, Some, None, IsSome, Ok, pos}
use Rattle.std.specs.List.{All}
use Rattle.fb_outside.specs.Files.{Files, file_at}
use Rattle.fb_types.specs.declared.types.ColType.TheVariants.{Category, Text}
use Rattle.fb_types.specs.Cells.{CellFits}
use Rattle.fb_types.specs.Types.{width_of}
use Rattle.column_file.specs.Opening.{column_in, mask_in}
use Rattle.column_file.specs.Values.{width_in}
use Rattle.index_file.specs.Opening.{Head, index_in}
use Rattle.index_file.specs.declared.head.IndexHead.{IndexHead}
use Rattle.index_spec.specs.Language.{IsGiven}
use Rattle.index_spec.specs.declared.spec.Spec.{Spec}
use Rattle.text_column.specs.OpenedDictionary.{dictionary_of as words_in}
use Rattle.text_column.specs.OpenedTexts.{text_in}
use Rattle.text_column.specs.Texts.{starts_of}
use Rattle.world.specs.Cells.{dictionary_of, texts_of}
use Rattle.world.specs.IndexFiles.{HasBitmaps, edge_of}
use Rattle.bin_answers.specs.Fetched.{HasBins}
use Rattle.part_meaning.specs.Bitmaps.{index_places}
use Rattle.part_meaning.specs.Columns.{PartColumn, bins_in, cell_of_row, present_rows}
use Rattle.two_stage.specs.Opened.{head_said}
use Rattle.two_stage.specs.Placed.{Placed, index_file, mask_file, starts_file, values_file, words_file}

-- what the head of the column's index says, where it has one
abbrev pub head_under : Option Spec → PartColumn → Option Head
head_under None column = None
head_under (Some spec) column =
    Some (record { spec = spec; bins = map edge_of (bins_in column); places = index_places spec column })

-- an open index of the column
pub record IsHeadOf (p : Placed) (column : PartColumn) (head : IndexHead) : Type 0 where
  pub name : head.name ≡ index_file p
  pub rows : head.rows ≡ p.rows
  pub says : head_under column.spec column ≡ Some (head_said head)

-- The files are told, and open as those of the column, which has the name, the type and as many cells as the place says.
pub record HasColumn (files : Option Files) (p : Placed) (column : PartColumn) : Type 0 where
  pub m : Files
  pub told : files ≡ Some m
  pub named : column.name ≡ p.column.name
  pub typed : column.ty ≡ p.column.ty
  pub each : length column.cells ≡ p.rows
  pub fits : (row : ℕ) → CellFits (cell_of_row column row) column.ty
  pub width : (spec : Spec) → column.spec ≡ Some spec → IsSome (width_of column.ty)
  pub indexed : (spec : Spec) → column.spec ≡ Some spec → IsGiven spec × HasBitmaps spec column.ty column.cells
  pub mask : mask_in p.rows (file_at m (mask_file p)) ≡ Ok (present_rows column)
  pub numbers : IsSome (width_of p.column.ty)
      → column_in (width_in p.column.ty) p.rows (file_at m (values_file p)) (file_at m (mask_file p)) ≡ Ok (present_rows column)
  pub words : p.column.ty ≡ Category → words_in (file_at m (words_file p)) ≡ Ok (dictionary_of column.cells)
  pub texts : p.column.ty ≡ Text
      → text_in p.rows (file_at m (values_file p)) (file_at m (starts_file p)) (file_at m (mask_file p)) ≡ Ok (starts_of (texts_of column.cells), present_rows column)
  pub index : index_in p.rows (file_at m (index_file p)) ≡ Ok (head_under column.spec column)
  pub bitmaps : (head : IndexHead) → IsHeadOf p column head → HasBins files head (present_rows column) (bins_in column)
  pub codes : p.column.ty ≡ Category
      → All (λ bin. (pos 1 ≤ℤ bin.least) × (bin.least ≤ℤ bin.greatest) × (bin.greatest ≤ℤ pos (length (dictionary_of column.cells)))) (bins_in column)
