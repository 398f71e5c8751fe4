-- Datasets, and the files at a path that open as one.
use Rattle.std.specs.Prelude.{◌≡◌, ◌⊎◌, ◌<◌, ℕ, List, Some, map}
use Rattle.std.specs.List.{All}
use Rattle.fb_outside.specs.Files.{Files, file_at}
use Rattle.fb_outside.specs.Names.{IsPath}
use Rattle.fb_outside.specs.Reads.{Look}
use Rattle.part_meta.specs.declared.catalog.Catalog.{Catalog}
use Rattle.part_meta.specs.declared.part.PartMeta.{PartMeta}
use Rattle.part_meta.specs.CatalogText.{IsCatalog, catalog_text}
use Rattle.part_meta.specs.FileNames.{catalog_name, part_name}
use Rattle.part_meta.specs.PartText.{IsPart, part_text}
use Rattle.dataset.specs.declared.content.Dataset.{Dataset}

-- what the dataset's catalog says
abbrev pub catalog_in : Dataset → Catalog
catalog_in dataset =
    record { schema = dataset.schema; next = dataset.next; parts = map (λ part. part.number) dataset.parts }

-- a part has the dataset's columns
abbrev pub IsPartOf : Dataset → PartMeta → Type 0
IsPartOf dataset part = IsPart part × (part.schema ≡ dataset.schema)

-- what every dataset keeps, whatever the files
pub record IsDataset (dataset : Dataset) : Type 0 where
  pub path : IsPath dataset.dir
  pub catalog : IsCatalog (catalog_in dataset)
  pub parts : All (IsPartOf dataset) dataset.parts

-- the catalog at the path says this
pub record HasCatalog (files : Files) (dir : List ℕ) (catalog : Catalog) : Type 0 where
  pub valid : IsCatalog catalog
  pub there : file_at files (catalog_name dir) ≡ Some (catalog_text catalog)

-- the text of the part of this number says this
pub record HasPart (files : Files) (dir : List ℕ) (part : PartMeta) : Type 0 where
  pub valid : IsPart part
  pub there : file_at files (part_name dir part.number) ≡ Some (part_text part)

-- the files at the path open as this dataset
pub record OpensAs (files : Files) (dir : List ℕ) (dataset : Dataset) : Type 0 where
  pub path : dataset.dir ≡ dir
  pub catalog : HasCatalog files dir (catalog_in dataset)
  pub parts : All (λ part. HasPart files dir part × (part.schema ≡ dataset.schema)) dataset.parts

-- the name of the catalog or of a part's text
abbrev pub IsTextName : List ℕ → List ℕ → Type 0
IsTextName dir name = (name ≡ catalog_name dir) ⊎ ((number : ℕ) × (number < 4096) × (name ≡ part_name dir number))

-- a look at one of these
abbrev pub IsTextLook : List ℕ → Look → Type 0
IsTextLook dir look = IsTextName dir look.name
