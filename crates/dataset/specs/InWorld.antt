-- The datasets of a world as they are opened, and the files of their columns.
use Rattle.std.specs.Prelude.{◌≡◌, ℕ, List, length, map, Ok, Some, slice_get}
use Rattle.std.specs.List.{All}
use Rattle.fb_outside.specs.Files.{Files, file_at}
use Rattle.fb_types.specs.declared.cells.Cell.{Cell}
use Rattle.fb_types.specs.declared.schemas.Column.{Column}
use Rattle.wah_words.specs.Bytes.{spelling}
use Rattle.column_file.specs.Opening.{column_in}
use Rattle.column_file.specs.Values.{ValueFits, values_bytes, width_in}
use Rattle.part_meta.specs.FileNames.{mask_name, values_name}
use Rattle.world.specs.World.{Content, Partition, World, content_at}
use Rattle.world.specs.Cells.{is_present, stored_numbers}
use Rattle.dataset.specs.declared.content.Dataset.{Dataset}
use Rattle.dataset.specs.Found.{dataset_in}

-- the world's dataset at the path
pub record IsDatasetOf (world : World) (dir : List ℕ) (dataset : Dataset) : Type 0 where
  pub content : Content
  pub there : content_at world dir ≡ Some content
  pub is : dataset ≡ dataset_in dir content

-- a column in a part of the world's dataset at the path
pub record IsColumnOf (world : World) (dir : List ℕ) (part : Partition) (col : ℕ) (column : Column) : Type 0 where
  pub content : Content
  pub there : content_at world dir ≡ Some content
  pub place : ℕ
  pub listed : slice_get content.parts place ≡ Some part
  pub in_schema : slice_get content.schema col ≡ Some column

-- The files of a column of numbers in a part: its values, each of which its type has, and which rows have one; and these open.
pub record HasNumbers (files : Files) (dir : List ℕ) (number : ℕ) (column : Column) (cells : List Cell) : Type 0 where
  pub values : file_at files (values_name dir number column.name) ≡ Some (values_bytes column.ty (stored_numbers column.ty cells))
  pub mask : file_at files (mask_name dir number column.name) ≡ Some (spelling (map is_present cells))
  pub each_row : length (stored_numbers column.ty cells) ≡ length cells
  pub fit : All (λ value. ValueFits value column.ty) (stored_numbers column.ty cells)
  pub opens : column_in (width_in column.ty) (length cells) (file_at files (values_name dir number column.name))
      (file_at files (mask_name dir number column.name)) ≡ Ok (map is_present cells)
