-- Loads that aren't refused, and the files that they write.
use Rattle.std.specs.Prelude.{◌≡◌, ◌≢◌, ◌+◌, ◌≤◌, ℕ, List, length, take, slice_get, None}
use Rattle.std.specs.List.{All}
use Rattle.fb_outside.specs.Names.{IsPath}
use Rattle.fb_outside.specs.Puts.{File}
use Rattle.fb_types.specs.declared.cells.Cell.{Cell}
use Rattle.fb_types.specs.declared.schemas.Column.{Column}
use Rattle.fb_types.specs.Cells.{RecordFits}
use Rattle.fb_types.specs.Schemas.{IsSchema}
use Rattle.part_meta.specs.declared.catalog.Catalog.{Catalog}
use Rattle.world.specs.World.{World, catalog_data, content_at}
use Rattle.world.specs.Effects.{found_or_empty}
use Rattle.dataset.specs.Appended.{append_files, refusal}
use Rattle.part_meta.specs.PartText.{most_rows}

-- the catalog before a load of these columns: the dataset's at the path, or of none
abbrev pub catalog_before : World → List ℕ → List Column → Catalog
catalog_before world path schema = catalog_data (found_or_empty schema (content_at world path))

-- the files of the load, in the order in which they are put
abbrev pub load_files : World → List ℕ → List Column → (per_part : ℕ) → List (List Cell) → List File
load_files world path schema per_part records = append_files path (catalog_before world path schema) per_part records

-- records that fit their columns are to be loaded under a path, with so many in a part, and the dataset there takes them
pub record IsLoad (world : World) (path : List ℕ) (schema : List Column) (per_part : ℕ) (records : List (List Cell)) : Type 0 where
  pub proper : IsPath path
  pub valid : IsSchema schema
  pub some : 1 ≤ per_part
  pub few : per_part ≤ most_rows
  pub fit : All (λ cells. RecordFits cells schema) records
  pub accepted : refusal (catalog_before world path schema) schema per_part (length records) ≡ None

-- Two lists of columns are the same up to a place, and there they have other columns, or one has none: its number, from 1.
pub record DifferFirst (a b : List Column) (number : ℕ) : Type 0 where
  pub place : ℕ
  pub is : number ≡ place + 1
  pub before : take place a ≡ take place b
  pub there : slice_get a place ≢ slice_get b place
