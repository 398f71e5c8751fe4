-- The dataset that a command finds at its path, or the refusal.
use Rattle.std.specs.Prelude.{◌≡◌, ⊤, ℕ, List, Option, IfSome, Result, Ok, Err}
use Rattle.fb_outside.specs.Files.{Files}
use Rattle.part_meta.specs.FileNames.{catalog_name}
use Rattle.dataset.specs.Damage.{Damage}
use Rattle.dataset.specs.Found.{Found, Absent, There, Broken, IsFound}
use Rattle.dataset.specs.declared.content.Dataset.{Dataset}
use Rattle.statuses.specs.declared.Status.{Status}
use Rattle.statuses.specs.declared.Status.TheVariants.{NoDataset, Damaged}
use Rattle.statuses.specs.declared.stop.Unanswered.{Unanswered}
use Rattle.statuses.specs.declared.stop.Unanswered.TheVariants.{Refused, StoreFault, OutOfMemory}

abbrev pub damaged_status : Damage → Status
damaged_status found = Damaged found.file found.kind found.want found.have

abbrev pub dataset_or_refusal : List ℕ → Found → Result Dataset Status
dataset_or_refusal dir Absent = Err (NoDataset (catalog_name dir))
dataset_or_refusal dir (There dataset) = Ok dataset
dataset_or_refusal dir (Broken damage) = Err (damaged_status damage)

-- ---- over a store, which may not tell its files

-- what the path has is a dataset, or refused
pub record Opened (dir : List ℕ) (files : Option Files) (result : Result Dataset Status) : Type 0 where
  pub found : Found
  pub told : IfSome files (λ m. IsFound m dir found)
  pub is : dataset_or_refusal dir found ≡ result

-- the same of a command that may stop
abbrev pub Finds : List ℕ → Option Files → Result Dataset Unanswered → Type 0
Finds dir files (Ok dataset) = Opened dir files (Ok dataset)
Finds dir files (Err (Refused status)) = Opened dir files (Err status)
Finds dir files (Err StoreFault) = ⊤
Finds dir files (Err OutOfMemory) = ⊤
