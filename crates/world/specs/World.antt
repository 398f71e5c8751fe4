-- The content of datasets as records, and the world: the datasets under their paths, and the input files.
use Rattle.std.specs.Prelude.{◌≡◌, ℕ, ◌≤◌, List, length, map, Option, Some, IsSome, slice_get}
use Rattle.std.specs.List.{All, flat_map}
use Rattle.std.specs.Ordering.{nat_cmp}
use Rattle.std.specs.Cmp.Lexicographic.{slice_cmp}
use Rattle.std.specs.FinMap.{FinMap, empty, get, insert}
use Rattle.fb_outside.specs.Files.{Files}
use Rattle.fb_types.specs.declared.cells.Cell.{Cell}
use Rattle.fb_types.specs.declared.schemas.Column.{Column}
use Rattle.fb_types.specs.Cells.{RecordFits}
use Rattle.fb_types.specs.Types.{width_of}
use Rattle.index_spec.specs.Language.{IsGiven}
use Rattle.index_spec.specs.declared.spec.Spec.{Spec}
use Rattle.part_meta.specs.declared.catalog.Catalog.{Catalog}
use Rattle.part_meta.specs.CatalogText.{IsCatalog}
use Rattle.part_meta.specs.PartText.{most_rows}
use Rattle.world.specs.Cells.{column_cells}
use Rattle.world.specs.IndexFiles.{HasBitmaps}

-- a part of a dataset: its number, its records, and how its columns are indexed, by their places in the schema
pub record Partition : Type 0 where
  pub number : ℕ
  pub records : List (List Cell)
  pub specs : FinMap nat_cmp Spec

-- what a dataset holds: the columns, the number that the next part gets, and the parts
pub record Content : Type 0 where
  pub schema : List Column
  pub next : ℕ
  pub parts : List Partition

-- its records, part by part
abbrev pub records_of : Content → List (List Cell)
records_of content = flat_map (λ part. part.records) content.parts

-- the datasets under their paths, and the files whose names end in `.csv`
pub record World : Type 0 where
  pub datasets : FinMap (slice_cmp nat_cmp) Content
  pub inputs : Files

abbrev pub content_at : World → List ℕ → Option Content
content_at world path = get world.datasets path

abbrev pub with_content : World → List ℕ → Content → World
with_content world path content = record world { datasets = insert world.datasets path content }

-- no dataset, with these input files
abbrev pub no_datasets : Files → World
no_datasets inputs = record { datasets = empty; inputs = inputs }

-- The column at that place can be indexed so: its type has a width, which text has not, the grammar gives the specification,
-- and the encoding takes so many bins.
pub record CanIndex (schema : List Column) (records : List (List Cell)) (col : ℕ) (spec : Spec) : Type 0 where
  pub column : Column
  pub in_schema : slice_get schema col ≡ Some column
  pub width : IsSome (width_of column.ty)
  pub given : IsGiven spec
  pub bitmaps : HasBitmaps spec column.ty (column_cells col records)

-- 1 to 4,194,304 records that fit the schema, and columns that can be indexed as they are
pub record IsPartition (schema : List Column) (part : Partition) : Type 0 where
  pub some : 1 ≤ length part.records
  pub few : length part.records ≤ most_rows
  pub fit : All (λ cells. RecordFits cells schema) part.records
  pub indexed : (col : ℕ) (spec : Spec) → get part.specs col ≡ Some spec → CanIndex schema part.records col spec

-- what a dataset's catalog says
abbrev pub catalog_data : Content → Catalog
catalog_data content =
    record { schema = content.schema; next = content.next; parts = map (λ part. part.number) content.parts }

pub record IsContent (content : Content) : Type 0 where
  pub catalog : IsCatalog (catalog_data content)
  pub parts : All (IsPartition content.schema) content.parts
