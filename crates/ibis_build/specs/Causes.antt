-- Why a request for indexes ends as it does, and which files it changes, over any files.
use Rattle.std.specs.Prelude.{◌≡◌, ◌⊎◌, ◌*◌, ⊤, ℕ, ℤ, Bool, List, length, Option, Some, None, IfSome, Result, Ok, Err, IfOk, slice_get}
use Rattle.fb_outside.specs.Files.{ChangesAmong, Files, SameFiles, told_at}
use Rattle.fb_types.specs.declared.schemas.Column.{Column}
use Rattle.index_spec.specs.Counts.{bitmap_count}
use Rattle.index_spec.specs.Language.{spec_of}
use Rattle.index_spec.specs.declared.spec.Spec.{Spec}
use Rattle.binning.specs.Encodings.{nested_bins}
use Rattle.part_meta.specs.declared.part.PartMeta.{PartMeta}
use Rattle.part_meta.specs.FileNames.{index_name}
use Rattle.world.specs.IndexFiles.{index_of}
use Rattle.dataset.specs.Damage.{Damage, IsColumnDamaged, IsDamagedAt}
use Rattle.dataset.specs.Found.{Found, Absent, There, Broken, IsFound}
use Rattle.dataset.specs.declared.content.Dataset.{Dataset}
use Rattle.index_build.specs.Build.{HasRows, bin_count}
use Rattle.index_build.specs.declared.fault.BuildFault.{BuildFault}
use Rattle.index_build.specs.declared.fault.BuildFault.TheVariants as build
use Rattle.statuses.specs.declared.LimitKind.TheVariants.{Bins}
use Rattle.statuses.specs.declared.Status.{Status}
use Rattle.statuses.specs.declared.Status.TheVariants.{BadSpec, Limit}
use Rattle.statuses.specs.declared.stop.Unanswered.{Unanswered}
use Rattle.statuses.specs.declared.stop.Unanswered.TheVariants.{Refused, StoreFault, OutOfMemory}
use Rattle.statuses.specs.Opening.{damaged_status}
use Rattle.ibis_build.specs.Builds.{Asked, asked_of}

-- ---- the columns that are indexed

-- the column stands in the schema at one of these places
pub record IsAmong (schema : List Column) (cols : List ℕ) (column : Column) : Type 0 where
  pub place : ℕ
  pub col : ℕ
  pub asked : slice_get cols place ≡ Some col
  pub in_schema : slice_get schema col ≡ Some column

-- the index of one of these columns in the part
pub record IsPartIndex (dataset : Dataset) (part : PartMeta) (cols : List ℕ) (name : List ℕ) : Type 0 where
  pub column : Column
  pub among : IsAmong dataset.schema cols column
  pub is : name ≡ index_name dataset.dir part.number column.name

-- in some part that the dataset lists
pub record IsIndexName (dataset : Dataset) (cols : List ℕ) (name : List ℕ) : Type 0 where
  pub part : PartMeta
  pub place : ℕ
  pub listed : slice_get dataset.parts place ≡ Some part
  pub index : IsPartIndex dataset part cols name

-- ---- why an index isn't built

-- no file of the column is damaged in the part
abbrev pub IsSound : Files → Dataset → PartMeta → Column → Type 0
IsSound files dataset part column = (damage : Damage) → IsDamagedAt files dataset.dir part column damage → ⊥

-- whatever rows the column has in the part, the encoding doesn't take its bins: they, or their groups, are so many
abbrev pub HasTooMany : Files → Dataset → PartMeta → Column → Spec → ℕ → Type 0
HasTooMany files dataset part column spec number =
    IsSound files dataset part column × ((mask : List Bool) (numbers : List ℤ) → HasRows files dataset.dir part column mask numbers
    → (bitmap_count spec.encoding (bin_count spec mask numbers) ≡ None) × (number ≡ nested_bins spec.encoding (bin_count spec mask numbers)))

-- a file of one of the columns is damaged in a part, or one of them, of which none is, has too many bins in a part
pub data IsRefused (files : Option Files) (dataset : Dataset) (asked : Asked) (status : Status) : Type 0 where
  Damages : (column : Column) (damage : Damage) → IsAmong dataset.schema asked.cols column
      → IfSome files (λ m. IsColumnDamaged m dataset column.name damage) → status ≡ damaged_status damage
      → IsRefused files dataset asked status
  Passes : (place : ℕ) (part : PartMeta) (column : Column) (number : ℕ) → slice_get dataset.parts place ≡ Some part
      → IsAmong dataset.schema asked.cols column → IfSome files (λ m. HasTooMany m dataset part column asked.spec number)
      → status ≡ Limit Bins number 1024 → IsRefused files dataset asked status

-- ---- what a request comes to

-- no file of one of these columns is damaged in the part, where the files are told
abbrev pub AreSound : Option Files → Dataset → PartMeta → (cols : List ℕ) → Type 0
AreSound files dataset part cols =
    (m : Files) (column : Column) → files ≡ Some m → IsAmong dataset.schema cols column → IsSound m dataset part column

-- in each part
abbrev pub AreAllSound : Option Files → Dataset → (cols : List ℕ) → Type 0
AreAllSound files dataset cols = (place : ℕ) (part : PartMeta) → slice_get dataset.parts place ≡ Some part → AreSound files dataset part cols

-- The refusal that the definition has, over what the path has. Else the index of each column in each part is built, and none of their
-- files is damaged, or one is refused.
abbrev pub BuildsBy : Option Files → Found → Result Asked Status → Result ℕ Status → Type 0
BuildsBy files found (Err status) result = result ≡ Err status
BuildsBy files Absent (Ok asked) result = ⊥
BuildsBy files (Broken damage) (Ok asked) result = ⊥
BuildsBy files (There dataset) (Ok asked) (Ok count) =
    (count ≡ length dataset.parts * length asked.cols) × AreAllSound files dataset asked.cols
BuildsBy files (There dataset) (Ok asked) (Err status) = IsRefused files dataset asked status

-- the same of a store, which may not tell its files; what the path has counts for nothing where the specification is refused
pub record BuildComes (dir text : List ℕ) (list : Option (List ℕ)) (files : Option Files) (result : Result ℕ Status) : Type 0 where
  pub found : Found
  pub told : IfOk (spec_of text) (λ spec. IfSome files (λ m. IsFound m dir found))
  pub builds : BuildsBy files found (asked_of dir text list found) result

-- and of a command that may stop
abbrev pub BuildGives : (dir text : List ℕ) → (list : Option (List ℕ)) → Option Files → Result ℕ Unanswered → Type 0
BuildGives dir text list files (Ok count) = BuildComes dir text list files (Ok count)
BuildGives dir text list files (Err (Refused status)) = BuildComes dir text list files (Err status)
BuildGives dir text list files (Err StoreFault) = ⊤
BuildGives dir text list files (Err OutOfMemory) = ⊤

-- ---- which files change

-- the indexes of the columns that are asked for, in the parts of the dataset that the path has
pub record BuildChanges (dir text : List ℕ) (list : Option (List ℕ)) (old new : Option Files) : Type 0 where
  pub dataset : Dataset
  pub asked : Asked
  pub told : IfSome old (λ m. IsFound m dir (There dataset))
  pub asks : asked_of dir text list (There dataset) ≡ Ok asked
  pub changes : ChangesAmong (IsIndexName dataset asked.cols) old new

-- none where nothing is asked
abbrev pub BuildKeeps : (dir text : List ℕ) → (list : Option (List ℕ)) → Option Files → Option Files → Type 0
BuildKeeps dir text list old new = SameFiles old new ⊎ BuildChanges dir text list old new

-- ---- what it leaves when it is done

-- each of these columns has its index in the part: that of the rows that its files had, by the specification
abbrev pub HasPartIndexes : Option Files → Dataset → PartMeta → Asked → Option Files → Type 0
HasPartIndexes old dataset part asked new =
    (m : Files) (column : Column) (mask : List Bool) (numbers : List ℤ) → old ≡ Some m → IsAmong dataset.schema asked.cols column
    → HasRows m dataset.dir part column mask numbers
    → told_at new (index_name dataset.dir part.number column.name) ≡ Some (index_of asked.spec mask numbers)

-- in each part
abbrev pub HasIndexes : Option Files → Dataset → Asked → Option Files → Type 0
HasIndexes old dataset asked new =
    (place : ℕ) (part : PartMeta) → slice_get dataset.parts place ≡ Some part → HasPartIndexes old dataset part asked new

abbrev pub BuildPuts : (dir text : List ℕ) → (list : Option (List ℕ)) → Option Files → Option Files → Type 0
BuildPuts dir text list old new =
    (dataset : Dataset) (asked : Asked) → IfSome old (λ m. IsFound m dir (There dataset)) → asked_of dir text list (There dataset) ≡ Ok asked
    → HasIndexes old dataset asked new

-- ---- the steps

-- the step is refused as was defined, or memory ran out
abbrev pub RefusesBy : {A : Type 0} → Result A Status → Unanswered → Type 0
RefusesBy defined (Refused status) = defined ≡ Err status
RefusesBy defined StoreFault = ⊥
RefusesBy defined OutOfMemory = ⊤

abbrev pub stop_of_build : BuildFault → Unanswered
stop_of_build (build.Damaged file kind want have) =
    Refused (damaged_status (record { file = file; kind = kind; want = want; have = have }))
stop_of_build (build.TooManyBins bins limit) = Refused (Limit Bins bins limit)
stop_of_build build.Store = StoreFault
stop_of_build build.OutOfMemory = OutOfMemory

-- an index of these columns is refused, or the outside failed, or memory ran out
abbrev pub StopsIn : Option Files → Dataset → Asked → Unanswered → Type 0
StopsIn files dataset asked (Refused status) = IsRefused files dataset asked status
StopsIn files dataset asked StoreFault = ⊤
StopsIn files dataset asked OutOfMemory = ⊤
