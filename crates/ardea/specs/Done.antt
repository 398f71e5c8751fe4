-- What a load leaves behind each of its answers.
use Rattle.std.specs.Prelude.{◌≡◌, ◌⊎◌, ℕ, List, length, Option, None, Result, Ok, Err}
use Rattle.fb_outside.specs.Files.{Files, SameFiles}
use Rattle.fb_outside.specs.Puts.{PutsAll, PutsFront}
use Rattle.fb_types.specs.Schemas.{IsSchema}
use Rattle.fb_types.specs.Table.{Table, AllFit}
use Rattle.command_words.specs.declared.Load.{Load}
use Rattle.part_meta.specs.declared.catalog.Catalog.{Catalog}
use Rattle.dataset.specs.Appended.{append_files, refusal}
use Rattle.statuses.specs.declared.stop.Stop.{Stop}
use Rattle.statuses.specs.declared.stop.Stop.TheVariants.{Refused, ReadFault, StoreFault, OutOfMemory}
use Rattle.ardea.specs.Load.{Gives, Situation, catalog_or_refusal, load_table}

-- The load goes through with this table, into the dataset of this catalog.
pub record GoesThrough (load : Load) (left : Option (List ℕ)) (files : Option Files) (table : Table) (catalog : Catalog) : Type 0 where
  pub situation : Situation load left files
  pub loaded : load_table load situation.input situation.readings ≡ Ok table
  pub taken : catalog_or_refusal table.schema situation.found ≡ Ok catalog
  pub accepted : refusal catalog table.schema load.per_part (length table.records) ≡ None
  pub schema : IsSchema table.schema
  pub fit : AllFit table

-- `old` and `new` are the files before and after: all of a load's are put in order where it is done, a front of them where
-- it stopped while it wrote, and none where it is refused or its input failed.
pub record IsDone (load : Load) (left : Option (List ℕ)) (old new : Option Files) (count : ℕ) : Type 0 where
  pub table : Table
  pub catalog : Catalog
  pub goes : GoesThrough load left old table catalog
  pub rows : count ≡ length table.records
  pub put : PutsAll (append_files load.dir catalog load.per_part table.records) old new

pub record IsCut (load : Load) (left : Option (List ℕ)) (old new : Option Files) : Type 0 where
  pub table : Table
  pub catalog : Catalog
  pub goes : GoesThrough load left old table catalog
  pub put : PutsFront (append_files load.dir catalog load.per_part table.records) old new

abbrev pub Ends : Load → Option (List ℕ) → Option Files → Option Files → Result ℕ Stop → Type 0
Ends load left old new (Ok rows) = IsDone load left old new rows
Ends load left old new (Err (Refused status)) = Gives load left old (Err status) × SameFiles old new
Ends load left old new (Err ReadFault) = SameFiles old new
Ends load left old new (Err StoreFault) = SameFiles old new ⊎ IsCut load left old new
Ends load left old new (Err OutOfMemory) = SameFiles old new ⊎ IsCut load left old new
