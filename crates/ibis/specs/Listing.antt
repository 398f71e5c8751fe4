-- What a listing answers: the schema of a dataset, and its parts with the indexes of their columns.
use Rattle.std.specs.Prelude.{◌≡◌, ⊤, ℕ, ◌+◌, List, [], ◌∷◌, ◌++◌, map, decimal, Option, Some, None, IfSome, Vec, Result, Ok, Err, IfOk}
use Rattle.std.specs.List.{AllByRecursion, flat_map}
use Rattle.std.specs.FinMap.{get}
use lib.Chars.{codes}
use Rattle.fb_outside.specs.Files.{Files}
use Rattle.fb_types.specs.declared.schemas.Column.{Column}
use Rattle.fb_types.specs.SchemaText.{schema_text}
use Rattle.index_spec.specs.declared.spec.Spec.{Spec}
use Rattle.index_spec.specs.Printed.{printed}
use Rattle.part_meta.specs.declared.part.PartMeta.{PartMeta}
use Rattle.dataset.specs.Damage.{Damage}
use Rattle.dataset.specs.Found.{Found, IsFound, found_in}
use Rattle.dataset.specs.declared.content.Dataset.{Dataset}
use Rattle.world.specs.PartFiles.{part_data}
use Rattle.world.specs.Stands.{StandsFor}
use Rattle.world.specs.World.{Content, Partition, World, content_at}
use Rattle.statuses.specs.declared.Status.{Status}
use Rattle.statuses.specs.declared.Status.TheVariants.{Done}
use Rattle.statuses.specs.declared.stop.Unanswered.{Unanswered}
use Rattle.statuses.specs.declared.stop.Unanswered.TheVariants.{Refused, StoreFault, OutOfMemory}
use Rattle.statuses.specs.Opening.{damaged_status, dataset_or_refusal}
use Rattle.statuses.specs.Outcome.{◌>>=◌, Outcome, refused}
use Rattle.ibis.specs.Indexes.{AreIndexes, Indexed, IsFirstDamaged}

-- ---- the lines

unfoldable pub schema_line : List Column → List ℕ
schema_line schema = codes "schema " ++ (schema_text schema ++ codes "\n")

unfoldable pub part_line : PartMeta → List ℕ
part_line part = codes "part " ++ (decimal part.number ++ (codes " rows " ++ (decimal part.rows ++ codes "\n")))

-- the specification of a column's index, in its printed form
unfoldable pub index_line : (name : List ℕ) → Spec → List ℕ
index_line name spec = codes "index " ++ (name ++ (codes " " ++ (printed spec ++ codes "\n")))

-- a column without an index has none
abbrev pub line_by : (name : List ℕ) → Option Spec → List ℕ
line_by name None = []
line_by name (Some spec) = index_line name spec

abbrev pub column_line : Indexed → List ℕ
column_line indexed = line_by indexed.column.name indexed.spec

-- a part and the indexes of its columns
pub record ListedPart : Type 0 where
  pub part : PartMeta
  pub columns : List Indexed

abbrev pub part_lines : ListedPart → List ℕ
part_lines listed = part_line listed.part ++ flat_map column_line listed.columns

unfoldable pub listing : List Column → List ListedPart → List ℕ
listing schema parts = schema_line schema ++ flat_map part_lines parts

-- ---- in a world

-- how the columns from the one at a place on are indexed in the part
abbrev pub indexed_from : Partition → ℕ → List Column → List Indexed
indexed_from part col [] = []
indexed_from part col (column ∷ columns) = record { column = column; spec = get part.specs col } ∷ indexed_from part (col + 1) columns

abbrev pub listed_part : List Column → Partition → ListedPart
listed_part schema part = record { part = part_data schema part; columns = indexed_from part 0 schema }

abbrev pub parts_at : List Column → Option Content → List ListedPart
parts_at schema None = []
parts_at schema (Some content) = map (listed_part schema) content.parts

-- the listing of the dataset that the path has, or the refusal
unfoldable pub list_result : List ℕ → Found → Option Content → Result (List ℕ) Status
list_result dir found content = do
  dataset ← dataset_or_refusal dir found
  Ok (listing dataset.schema (parts_at dataset.schema content))

-- a listing is printed, and changes nothing
abbrev pub listed : Result (List ℕ) Status → Outcome
listed (Ok text) = record { status = Done; text = text; effects = [] }
listed (Err status) = refused status

abbrev pub list_outcome : List ℕ → World → Outcome
list_outcome dir world = listed (list_result dir (found_in world dir) (content_at world dir))

-- ---- over files, whether or not they stand for a world

-- the columns of the part are indexed as its files say
abbrev pub IsListed : Option Files → Dataset → ListedPart → Type 0
IsListed files dataset listed = AreIndexes files dataset listed.part dataset.schema listed.columns

-- these parts, each so
pub record AreListed (files : Option Files) (dataset : Dataset) (parts : List PartMeta) (listed : List ListedPart) : Type 0 where
  pub are : map (λ l. l.part) listed ≡ parts
  pub each : AllByRecursion (IsListed files dataset) listed

-- A listing comes to the refusal that the definition has. Else it has the index lines that the files say, or the first index that
-- is damaged, in the order of the parts and in each of its columns, is its refusal.
abbrev pub ListsBy : Option Files → Result Dataset Status → Result (List ℕ) Status → Type 0
ListsBy files (Err status) result = result ≡ Err status
ListsBy files (Ok dataset) (Ok text) =
    (parts : List ListedPart) × AreListed files dataset dataset.parts parts × (text ≡ listing dataset.schema parts)
ListsBy files (Ok dataset) (Err status) =
    (damage : Damage) × (status ≡ damaged_status damage) × IsFirstDamaged files dataset damage

-- the same of a store, which may not tell its files
pub record ListComes (dir : List ℕ) (files : Option Files) (result : Result (List ℕ) Status) : Type 0 where
  pub found : Found
  pub told : IfSome files (λ m. IsFound m dir found)
  pub lists : ListsBy files (dataset_or_refusal dir found) result

-- and of a command that may stop
abbrev pub ListGives : List ℕ → Option Files → Result (List ℕ) Unanswered → Type 0
ListGives dir files (Ok text) = ListComes dir files (Ok text)
ListGives dir files (Err (Refused status)) = ListComes dir files (Err status)
ListGives dir files (Err StoreFault) = ⊤
ListGives dir files (Err OutOfMemory) = ⊤

-- ---- where the files stand for a world, the listing is the world's

abbrev pub IsListingIn : List ℕ → World → List ℕ → Type 0
IsListingIn dir world text = list_result dir (found_in world dir) (content_at world dir) ≡ Ok text

abbrev pub ListsWorld : List ℕ → Option Files → Result (List ℕ) Unanswered → Type 0
ListsWorld dir files result = (world : World) → StandsFor files world → IfOk result (IsListingIn dir world)

-- the bytes of what was given
abbrev pub text_of : {A : Type 0} → Result (Vec ℕ A) Unanswered → Result (List ℕ) Unanswered
text_of (Ok text) = Ok text.items
text_of (Err stop) = Err stop
