-- What a path has: no dataset, one, or one whose catalog or part text is damaged.
use Rattle.std.specs.Prelude.{◌≡◌, ℕ, List, map, Option, Some, None, Result, Ok, Err}
use Rattle.fb_outside.specs.Files.{Files, file_at}
use Rattle.part_meta.specs.FileNames.{catalog_name}
use Rattle.world.specs.PartFiles.{part_data}
use Rattle.world.specs.World.{Content, World, content_at}
use Rattle.dataset.specs.Damage.{Damage, IsFirstDamaged}
use Rattle.dataset.specs.Opened.{OpensAs}
use Rattle.dataset.specs.declared.content.Dataset.{Dataset}
use Rattle.dataset.specs.declared.fault.OpenFault.{OpenFault}
use Rattle.dataset.specs.declared.fault.OpenFault.TheVariants as fault

pub data Found : Type 0 where
  Absent : Found
  There : (dataset : Dataset) → Found
  Broken : (damage : Damage) → Found

-- the files have that at the path
abbrev pub IsFound : Files → List ℕ → Found → Type 0
IsFound files dir Absent = file_at files (catalog_name dir) ≡ None
IsFound files dir (There dataset) = OpensAs files dir dataset
IsFound files dir (Broken damage) = IsFirstDamaged files dir damage

-- ---- in a world

-- the dataset of that content
abbrev pub dataset_in : List ℕ → Content → Dataset
dataset_in dir content = record {
  dir = dir;
  schema = content.schema;
  next = content.next;
  parts = map (part_data content.schema) content.parts;
}

abbrev pub found_by : List ℕ → Option Content → Found
found_by dir None = Absent
found_by dir (Some content) = There (dataset_in dir content)

abbrev pub found_in : World → List ℕ → Found
found_in world dir = found_by dir (content_at world dir)

-- ---- what opening answers

abbrev pub found_fault : OpenFault → Option Found
found_fault fault.NoDataset = Some Absent
found_fault (fault.Damaged file kind want have) = Some (Broken (record { file = file; kind = kind; want = want; have = have }))
found_fault fault.Store = None
found_fault fault.OutOfMemory = None

-- what was found, None where the call stopped before it was known
abbrev pub found_of : Result Dataset OpenFault → Option Found
found_of (Ok dataset) = Some (There dataset)
found_of (Err fault) = found_fault fault
