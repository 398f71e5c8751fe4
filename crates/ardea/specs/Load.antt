-- What a load answers: the refusal whose cause comes first in the order below, or the table that is loaded.
use Rattle.std.specs.Prelude.{◌≡◌, ℕ, ◌+◌, List, [], ◌∷◌, ◌++◌, length, decimal, nat_le, Option, Some, None, IfSome, IsOk, Result, Ok, Err, if◌then◌else◌}
use lib.Chars.{codes}
use Rattle.std.specs.FinMap.{get}
use Rattle.fb_outside.specs.Files.{Files, file_at}
use Rattle.fb_types.specs.declared.cells.Cell.{Cell}
use Rattle.fb_types.specs.declared.schemas.Column.{Column}
use Rattle.fb_types.specs.SchemaText.{SchemaFault, read_schema}
use Rattle.fb_types.specs.Table.{Table}
use Rattle.csv_load.specs.Loaded.{Fault, loaded}
use Rattle.command_words.specs.declared.Load.{Load}
use Rattle.part_meta.specs.declared.catalog.Catalog.{Catalog}
use Rattle.part_meta.specs.PartText.{most_rows}
use Rattle.dataset.specs.Appended.{Refusal, SchemaDiffers, TooManyParts, TooManyNumbers, most_numbers, most_parts, refusal}
use Rattle.dataset.specs.Found.{Found, Absent, There, Broken, IsFound, found_in}
use Rattle.dataset.specs.Opened.{catalog_in}
use Rattle.dataset.specs.declared.fault.DamageKind.TheVariants.{Length}
use Rattle.world.specs.World.{World}
use Rattle.world.specs.Effects.{Loads}
use Rattle.statuses.specs.declared.LimitKind.TheVariants as limit
use Rattle.statuses.specs.declared.Status.{Status}
use Rattle.statuses.specs.declared.Status.TheVariants as status
use Rattle.statuses.specs.Outcome.{◌>>=◌, Outcome, refused}

-- ---- the schema and the rows of a part

abbrev pub schema_or_refusal : Result (List Column) SchemaFault → Result (List Column) Status
schema_or_refusal (Ok schema) = Ok schema
schema_or_refusal (Err fault) = Err (status.BadSchema fault.column fault.kind)

abbrev pub rows_or_refusal : ℕ → List Column → Result (List Column) Status
rows_or_refusal per_part schema =
    if nat_le per_part most_rows then Ok schema else Err (status.Limit limit.Rows per_part most_rows)

-- the schema of a load, which stands before all that the outside tells
unfoldable pub load_schema : Load → Result (List Column) Status
load_schema load = do
  schema ← schema_or_refusal (read_schema load.schema)
  rows_or_refusal load.per_part schema

-- ---- its text: that of the file that it names, else the input

-- the most bytes that a load takes
abbrev pub most_input_bytes : ℕ
most_input_bytes = 67108864

-- what a store gives of a file: it has none, its bytes, or fewer bytes than it told; the last comes only of a store that
-- doesn't tell its files
pub data Reading : Type 0 where
  NoFile : Reading
  Bytes : (bytes : List ℕ) → Reading
  CutShort : (told : ℕ) → Reading

abbrev pub reading_of : Option (List ℕ) → Reading
reading_of None = NoFile
reading_of (Some bytes) = Bytes bytes

-- of an input no more is known than that it is too long
abbrev pub input_or_refusal : List ℕ → Result (List ℕ) Status
input_or_refusal input =
    if nat_le (length input) most_input_bytes then Ok input
    else Err (status.Limit limit.Input (most_input_bytes + 1) most_input_bytes)

abbrev pub within_limit : {T : Type 0} → ℕ → Result T Status → Result T Status
within_limit size given =
    if nat_le size most_input_bytes then given else Err (status.Limit limit.Input size most_input_bytes)

abbrev pub reading_or_refusal : List ℕ → Reading → Result (List ℕ) Status
reading_or_refusal name NoFile = Err (status.NoDataset name)
reading_or_refusal name (Bytes bytes) = within_limit (length bytes) (Ok bytes)
reading_or_refusal name (CutShort told) = within_limit told (Err (status.Damaged name Length 0 0))

abbrev pub text_or_refusal : Option (List ℕ) → List ℕ → (List ℕ → Reading) → Result (List ℕ) Status
text_or_refusal None input readings = input_or_refusal input
text_or_refusal (Some name) input readings = reading_or_refusal name (readings name)

-- ---- its records

abbrev pub records_or_refusal : Result (List (List Cell)) Fault → Result (List (List Cell)) Status
records_or_refusal (Ok records) = Ok records
records_or_refusal (Err fault) = Err (status.BadInput fault.number fault.field fault.kind)

-- The table of a load. All that refuses it stands before the dataset is looked at.
unfoldable pub load_table : Load → List ℕ → (List ℕ → Reading) → Result Table Status
load_table load input readings = do
  schema ← load_schema load
  text ← text_or_refusal load.file input readings
  records ← records_or_refusal (loaded text schema load.skip)
  Ok (record { schema = schema; records = records })

-- ---- the dataset that takes it

abbrev pub empty_catalog : List Column → Catalog
empty_catalog schema = record { schema = schema; next = 0; parts = [] }

-- the catalog before the load; a path without a dataset gets one of the load's columns
abbrev pub catalog_or_refusal : List Column → Found → Result Catalog Status
catalog_or_refusal schema Absent = Ok (empty_catalog schema)
catalog_or_refusal schema (There dataset) = Ok (catalog_in dataset)
catalog_or_refusal schema (Broken damage) = Err (status.Damaged damage.file damage.kind damage.want damage.have)

abbrev pub status_of : Refusal → Status
status_of (SchemaDiffers column) = status.SchemaDiffers column
status_of (TooManyParts number) = status.Limit limit.Parts number most_parts
status_of (TooManyNumbers number) = status.Limit limit.Numbers number most_numbers

abbrev pub unless_refused : Table → Option Refusal → Result Table Status
unless_refused table None = Ok table
unless_refused table (Some why) = Err (status_of why)

-- the table of a load, where the dataset that was found takes it
unfoldable pub load_result : Load → List ℕ → (List ℕ → Reading) → Found → Result Table Status
load_result load input readings found = do
  table ← load_table load input readings
  catalog ← catalog_or_refusal table.schema found
  unless_refused table (refusal catalog table.schema load.per_part (length table.records))

-- ---- what it prints and does

-- the line of a load of so many records
unfoldable pub loaded_line : ℕ → List ℕ
loaded_line rows = codes "loaded " ++ (decimal rows ++ codes " rows\n")

-- a load that isn't refused prints how many records it loaded, and has one effect
abbrev pub outcome_of : Load → Result Table Status → Outcome
outcome_of load (Ok table) = record {
  status = status.Done;
  text = loaded_line (length table.records);
  effects = Loads load.dir table.schema load.per_part table.records ∷ [];
}
outcome_of load (Err refusal) = refused refusal

abbrev pub load_outcome : Load → List ℕ → World → Outcome
load_outcome load input world =
    outcome_of load (load_result load input (λ name. reading_of (get world.inputs name)) (found_in world load.dir))

-- ---- over a source and a store, which may not tell what they have

-- An input, what files there are, and what the path has: those that the source and the store tell. What the path has is
-- looked at only where the table isn't refused.
pub record Situation (load : Load) (left : Option (List ℕ)) (files : Option Files) : Type 0 where
  pub input : List ℕ
  pub readings : List ℕ → Reading
  pub found : Found
  pub input_told : IfSome left (λ bytes. bytes ≡ input)
  pub readings_told : IfSome files (λ m. (name : List ℕ) → readings name ≡ reading_of (file_at m name))
  pub found_told : IsOk (load_table load input readings) → IfSome files (λ m. IsFound m load.dir found)

-- the definition's answer in some such situation
pub record Gives (load : Load) (left : Option (List ℕ)) (files : Option Files) (result : Result Table Status) : Type 0 where
  pub situation : Situation load left files
  pub is : load_result load situation.input situation.readings situation.found ≡ result
