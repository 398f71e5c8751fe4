-- The reads of an opening.
use Rattle.std.specs.Prelude.{◌≡◌, ◌⊎◌, ℕ, List, Some, slice_get}
use Rattle.fb_outside.specs.Files.{Files}
use Rattle.fb_outside.specs.Reads.{Look, whole_look}
use Rattle.part_meta.specs.declared.catalog.Catalog.{Catalog}
use Rattle.part_meta.specs.FileNames.{catalog_name, part_name}
use Rattle.dataset.specs.Opened.{HasCatalog}

-- a look at the whole text of a part that the catalog lists
pub record IsPartLook (files : Files) (dir : List ℕ) (look : Look) : Type 0 where
  pub catalog : Catalog
  pub has : HasCatalog files dir catalog
  pub place : ℕ
  pub number : ℕ
  pub listed : slice_get catalog.parts place ≡ Some number
  pub whole : look ≡ whole_look files (part_name dir number)

-- a look at the whole catalog, or at one of these
abbrev pub IsListedLook : Files → List ℕ → Look → Type 0
IsListedLook files dir look = (look ≡ whole_look files (catalog_name dir)) ⊎ IsPartLook files dir look
