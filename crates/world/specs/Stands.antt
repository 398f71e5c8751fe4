-- Which files stand for a world.
use Rattle.std.specs.Prelude.{◌≡◌, ◌≤◌, ◌<◌, ℕ, List, ◌++◌, Option, Some, None, slice_get}
use Rattle.std.specs.FinMap.{get}
use Rattle.std.specs.List.{All}
use lib.Chars.{codes}
use Rattle.fb_outside.specs.Files.{Files, file_at}
use Rattle.fb_outside.specs.Names.{IsPath}
use Rattle.fb_outside.specs.Puts.{IsThere}
use Rattle.fb_types.specs.declared.schemas.Column.{Column}
use Rattle.fb_types.specs.Names.{IsColumnName}
use Rattle.part_meta.specs.CatalogText.{catalog_text}
use Rattle.part_meta.specs.FileNames.{catalog_name, index_name}
use Rattle.world.specs.World.{Partition, Content, World, IsContent, catalog_data, content_at}
use Rattle.world.specs.PartFiles.{index_in, part_files}

-- the column has no index in that part
abbrev pub IsUnindexed : Files → List ℕ → ℕ → List ℕ → Type 0
IsUnindexed files dir number name = file_at files (index_name dir number name) ≡ None

-- The part's files are there, and the index of each column exactly where the part has a specification of it.
pub record PartRests (files : Files) (dir : List ℕ) (schema : List Column) (part : Partition) : Type 0 where
  pub listed : All (IsThere files) (part_files dir schema part)
  pub indexes : (col : ℕ) (column : Column) → slice_get schema col ≡ Some column
      → file_at files (index_name dir part.number column.name) ≡ index_in part col column

-- the files under a path are the dataset's; a part that is still to come has no index
pub record Rests (files : Files) (dir : List ℕ) (content : Content) : Type 0 where
  pub catalog : file_at files (catalog_name dir) ≡ Some (catalog_text (catalog_data content))
  pub parts : All (PartRests files dir content.schema) content.parts
  pub unindexed : (number : ℕ) → content.next ≤ number → number < 4096
      → All (λ column. IsUnindexed files dir number column.name) content.schema

-- no dataset: neither a catalog nor an index
pub record IsFree (files : Files) (dir : List ℕ) : Type 0 where
  pub catalog : file_at files (catalog_name dir) ≡ None
  pub unindexed : (number : ℕ) (name : List ℕ) → number < 4096 → IsColumnName name → IsUnindexed files dir number name

-- the name of an input file
pub record IsInputName (name : List ℕ) : Type 0 where
  pub stem : List ℕ
  pub is : name ≡ stem ++ codes ".csv"

-- The files stand for the world: each dataset's are there, every other path is free, and the input files are the world's.
-- All other files may be there or not.
pub record Stands (files : Files) (world : World) : Type 0 where
  pub paths : (path : List ℕ) (content : Content) → content_at world path ≡ Some content → IsPath path
  pub valid : (path : List ℕ) (content : Content) → content_at world path ≡ Some content → IsContent content
  pub rests : (path : List ℕ) (content : Content) → content_at world path ≡ Some content → Rests files path content
  pub free : (path : List ℕ) → IsPath path → content_at world path ≡ None → IsFree files path
  pub inputs : (name : List ℕ) → IsInputName name → file_at files name ≡ get world.inputs name

-- the same of a store, which may not tell its files
abbrev pub StandsFor : Option Files → World → Type 0
StandsFor None world = ⊥
StandsFor (Some files) world = Stands files world
