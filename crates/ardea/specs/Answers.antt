-- What each step of a load tells of its definition.
use Rattle.std.specs.Prelude.{◌≡◌, ⊤, ℕ, List, Option, None, IfSome, Result, length}
use Rattle.fb_outside.specs.Files.{Files, file_at}
use Rattle.fb_types.specs.declared.schemas.Column.{Column}
use Rattle.fb_types.specs.Table.{Table}
use Rattle.command_words.specs.declared.Load.{Load}
use Rattle.part_meta.specs.declared.catalog.Catalog.{Catalog}
use Rattle.dataset.specs.Appended.{Refusal, refusal}
use Rattle.dataset.specs.Found.{Found, IsFound}
use Rattle.statuses.specs.declared.Status.{Status}
use Rattle.statuses.specs.declared.stop.Stop.{Stop}
use Rattle.statuses.specs.declared.stop.Stop.TheVariants.{Refused, ReadFault, StoreFault, OutOfMemory}
use Rattle.ardea.specs.Load.{NoFile, Reading, catalog_or_refusal, load_table, reading_of, reading_or_refusal, text_or_refusal}

-- The step is refused with a status of which this holds, or the input failed, or the store, each where it is asked; or
-- memory ran out.
abbrev pub StopsBy : (refused : Status → Type 0) → (input_failed store_failed : Type 0) → Stop → Type 0
StopsBy refused input_failed store_failed (Refused status) = refused status
StopsBy refused input_failed store_failed ReadFault = input_failed
StopsBy refused input_failed store_failed StoreFault = store_failed
StopsBy refused input_failed store_failed OutOfMemory = ⊤

-- what a store gives of the file of a load comes to that
pub record GivesFile (name : List ℕ) (files : Option Files) (result : Result (List ℕ) Status) : Type 0 where
  pub reading : Reading
  pub told : IfSome files (λ m. reading ≡ reading_of (file_at m name))
  pub is : reading_or_refusal name reading ≡ result

-- some input that is told comes to that
pub record GivesInput (left : Option (List ℕ)) (result : Result (List ℕ) Status) : Type 0 where
  pub input : List ℕ
  pub told : IfSome left (λ bytes. bytes ≡ input)
  pub is : text_or_refusal None input (λ name. NoFile) ≡ result

-- the text of a load is that
pub record GivesText (load : Load) (left : Option (List ℕ)) (files : Option Files) (result : Result (List ℕ) Status) : Type 0 where
  pub input : List ℕ
  pub readings : List ℕ → Reading
  pub input_told : IfSome left (λ bytes. bytes ≡ input)
  pub readings_told : IfSome files (λ m. (name : List ℕ) → readings name ≡ reading_of (file_at m name))
  pub is : text_or_refusal load.file input readings ≡ result

-- its table is that
pub record GivesTable (load : Load) (left : Option (List ℕ)) (files : Option Files) (result : Result Table Status) : Type 0 where
  pub input : List ℕ
  pub readings : List ℕ → Reading
  pub input_told : IfSome left (λ bytes. bytes ≡ input)
  pub readings_told : IfSome files (λ m. (name : List ℕ) → readings name ≡ reading_of (file_at m name))
  pub is : load_table load input readings ≡ result

-- the catalog before a load of these columns is that
pub record GivesCatalog (dir : List ℕ) (schema : List Column) (files : Option Files) (result : Result Catalog Status) : Type 0 where
  pub found : Found
  pub told : IfSome files (λ m. IsFound m dir found)
  pub is : catalog_or_refusal schema found ≡ result

-- why the dataset of this catalog doesn't take the table
abbrev pub refusal_of : Catalog → (per_part : ℕ) → Table → Option Refusal
refusal_of catalog per_part table = refusal catalog table.schema per_part (length table.records)
