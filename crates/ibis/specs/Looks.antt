-- What a listing reads.
use Rattle.std.specs.Prelude.{◌≡◌, ◌⊎◌, ℕ, List, Option, Some, IfSome, slice_get}
use Rattle.fb_outside.specs.Files.{Files}
use Rattle.fb_outside.specs.Reads.{Look}
use Rattle.fb_types.specs.declared.schemas.Column.{Column}
use Rattle.index_file.specs.Opening.{IsHeadLook}
use Rattle.part_meta.specs.declared.part.PartMeta.{PartMeta}
use Rattle.dataset.specs.Found.{IsFound, There}
use Rattle.dataset.specs.Opened.{IsTextLook}
use Rattle.dataset.specs.PartIndexes.{index_file}
use Rattle.dataset.specs.declared.content.Dataset.{Dataset}

-- within the head of the index file of a column in the part
pub record IsPartIndexLook (files : Option Files) (dataset : Dataset) (part : PartMeta) (look : Look) : Type 0 where
  pub column : Column
  pub col : ℕ
  pub in_schema : slice_get dataset.schema col ≡ Some column
  pub head : IsHeadLook files (index_file dataset part column) look

-- in one of the dataset's parts
pub record IsIndexLook (files : Option Files) (dataset : Dataset) (look : Look) : Type 0 where
  pub part : PartMeta
  pub place : ℕ
  pub listed : slice_get dataset.parts place ≡ Some part
  pub index : IsPartIndexLook files dataset part look

-- of the dataset that the path has
pub record IsListedIndexLook (files : Option Files) (dir : List ℕ) (look : Look) : Type 0 where
  pub dataset : Dataset
  pub told : IfSome files (λ m. IsFound m dir (There dataset))
  pub path : dataset.dir ≡ dir
  pub index : IsIndexLook files dataset look

-- a listing reads the texts of its dataset, and the heads of the indexes of its parts
abbrev pub IsListLook : Option Files → List ℕ → Look → Type 0
IsListLook files dir look = IsTextLook dir look ⊎ IsListedIndexLook files dir look
