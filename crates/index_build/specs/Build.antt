-- What a build leaves and answers, why it ends without an index, and what it reads.
use Rattle.std.specs.Prelude.{◌≡◌, ◌≢◌, ◌⊎◌, ◌*◌, ◌<◌, ⊤, ℕ, ℤ, Bool, List, Option, Some, None, Result, Ok, Err, IfSome, IsSome, length}
use Rattle.std.specs.List.{All}
use Rattle.fb_outside.specs.Files.{Files, Puts, SameFiles, file_at, told_at}
use Rattle.fb_outside.specs.Reads.{Look}
use Rattle.fb_types.specs.declared.schemas.Column.{Column}
use Rattle.fb_types.specs.declared.types.ColType.TheVariants.{Category}
use Rattle.wah_words.specs.Bytes.{spelling}
use Rattle.column_file.specs.declared.column.ColumnRef.{ColumnRef}
use Rattle.column_file.specs.Values.{ValueFits, values_bytes, width_in}
use Rattle.index_spec.specs.Counts.{bitmap_count}
use Rattle.index_spec.specs.declared.spec.EncodingSpec.{EncodingSpec}
use Rattle.index_spec.specs.declared.spec.Spec.{Spec}
use Rattle.binning.specs.Encodings.{nested_bins}
use Rattle.part_meta.specs.declared.part.PartMeta.{PartMeta}
use Rattle.part_meta.specs.FileNames.{mask_name, values_name}
use Rattle.world.specs.IndexFiles.{bins_by}
use Rattle.dataset.specs.Damage.{Damage, IsColumnDamaged, IsDamagedAt, words_at, words_name}
use Rattle.dataset.specs.PartColumns.{HasWords, OpensDictionary, column_at}
use Rattle.dataset.specs.declared.content.Dataset.{Dataset}
use Rattle.dataset.specs.declared.fault.DamageKind.TheVariants.{Length}
use Rattle.dataset.specs.declared.fault.PartFault.{PartFault}
use Rattle.dataset.specs.declared.fault.PartFault.TheVariants as unopened
use Rattle.index_build.specs.declared.fault.BuildFault.{BuildFault}
use Rattle.index_build.specs.declared.fault.BuildFault.TheVariants.{Damaged, TooManyBins, Store, OutOfMemory}
use Rattle.index_build.specs.declared.writing.Built.{Built}
use Rattle.index_build.specs.Index.{HasNumbers}

-- ---- what a build leaves and answers

-- The files of a part's column: which rows have a number, and a number of the column's type for each row; a category has a dictionary.
pub record HasRows (files : Files) (dir : List ℕ) (part : PartMeta) (column : Column) (mask : List Bool) (numbers : List ℤ) : Type 0 where
  pub values : file_at files (values_name dir part.number column.name) ≡ Some (values_bytes column.ty numbers)
  pub present : file_at files (mask_name dir part.number column.name) ≡ Some (spelling mask)
  pub fit : All (λ number. ValueFits number column.ty) numbers
  pub each : length numbers ≡ part.rows
  pub long : length mask ≡ part.rows
  pub words : column.ty ≡ Category → (words : List (List ℕ)) × HasWords files dir part.number column words

-- into how many bins the rows fall that have a number
abbrev pub bin_count : Spec → List Bool → List ℤ → ℕ
bin_count spec mask numbers = length (bins_by spec mask numbers)

-- the index file is put, and the encoding takes its n bins
abbrev pub PutsIndex : EncodingSpec → ℕ → List ℕ → List ℕ → Option Files → Option Files → Type 0
PutsIndex encoding n name bytes old new = Puts old new name bytes × IsSome (bitmap_count encoding n)

-- Once a build is done its file is there whole, in place of one that was there; where it stopped, nothing changed or it is there.
abbrev pub LeavesIndex : EncodingSpec → ℕ → List ℕ → List ℕ → Result Built BuildFault → Option Files → Option Files → Type 0
LeavesIndex encoding n name bytes (Ok built) old new = PutsIndex encoding n name bytes old new
LeavesIndex encoding n name bytes (Err fault) old new = SameFiles old new ⊎ PutsIndex encoding n name bytes old new

-- Over n bins a build is done only where the encoding takes them, and then tells their number and that of the bitmaps; too many are
-- told only where it doesn't: the bins, or the groups of a two-level encoding. No file is damaged.
abbrev pub AnswersOver : EncodingSpec → ℕ → Result Built BuildFault → Type 0
AnswersOver encoding n (Ok built) = (built.bins ≡ n) × (bitmap_count encoding n ≡ Some built.bitmaps)
AnswersOver encoding n (Err (TooManyBins bins limit)) =
    (bitmap_count encoding n ≡ None) × (bins ≡ nested_bins encoding n) × (limit ≡ 1024)
AnswersOver encoding n (Err (Damaged file kind want have)) = ⊥
AnswersOver encoding n (Err Store) = ⊤
AnswersOver encoding n (Err OutOfMemory) = ⊤

-- ---- what it answers over damaged files

-- that damage, and nothing else that the files tell
abbrev pub TellsDamage : Damage → Result Built BuildFault → Type 0
TellsDamage damage (Ok built) = ⊥
TellsDamage damage (Err (Damaged file kind want have)) = damage ≡ record { file = file; kind = kind; want = want; have = have }
TellsDamage damage (Err (TooManyBins bins limit)) = ⊥
TellsDamage damage (Err Store) = ⊤
TellsDamage damage (Err OutOfMemory) = ⊤

-- The dictionary of a category is read, or damaged as was answered; another column has none.
abbrev pub ReadsWords : Files → Dataset → PartMeta → Column → Result ⊤ PartFault → Type 0
ReadsWords files dataset part column (Ok done) =
    column.ty ≡ Category → (words : List (List ℕ)) × (words_at files dataset.dir part column ≡ Ok words)
ReadsWords files dataset part column (Err (unopened.Damaged file kind want have)) =
    (column.ty ≡ Category) × OpensDictionary files dataset part column (Err (unopened.Damaged file kind want have))
ReadsWords files dataset part column (Err unopened.Store) = ⊤
ReadsWords files dataset part column (Err unopened.OutOfMemory) = ⊤

-- The files are those of such a column, a category's dictionary among them, or have that first damage.
abbrev pub OpensNumbers : Files → Dataset → PartMeta → Column → Result ColumnRef PartFault → Type 0
OpensNumbers files dataset part column (Ok opened) =
    (column_at files dataset part column ≡ Ok opened.mask)
    × (column.ty ≡ Category → (words : List (List ℕ)) × (words_at files dataset.dir part column ≡ Ok words))
OpensNumbers files dataset part column (Err (unopened.Damaged file kind want have)) =
    IsDamagedAt files dataset.dir part column (record { file = file; kind = kind; want = want; have = have })
OpensNumbers files dataset part column (Err unopened.Store) = ⊤
OpensNumbers files dataset part column (Err unopened.OutOfMemory) = ⊤

-- ---- why it ends without an index

abbrev pub fault_of_part : PartFault → BuildFault
fault_of_part (unopened.Damaged file kind want have) = Damaged file kind want have
fault_of_part unopened.Store = Store
fault_of_part unopened.OutOfMemory = OutOfMemory

-- fewer bytes of a file came, or memory ran out
abbrev pub IsShort : List ℕ → ℕ → ℕ → BuildFault → Type 0
IsShort name want have (Damaged file kind want' have') = (file ≡ name) × (kind ≡ Length) × (want' ≡ want) × (have' ≡ have)
IsShort name want have OutOfMemory = ⊤
IsShort name want have (TooManyBins bins limit) = ⊥
IsShort name want have Store = ⊥

-- Its values file gave fewer bytes than it had; or its numbers have more bins than the encoding takes.
abbrev pub StopsColumn : Option Files → ColumnRef → Spec → BuildFault → Type 0
StopsColumn files column spec (Damaged file kind want have) =
    (file ≡ column.name) × (kind ≡ Length) × ((bytes : List ℕ) → told_at files column.name ≡ Some bytes → length bytes ≢ column.rows * width_in column.ty)
StopsColumn files column spec (TooManyBins bins limit) =
    (limit ≡ 1024) × (1024 < bins) × ((numbers : List ℤ) → HasNumbers files column numbers → bitmap_count spec.encoding (bin_count spec column.mask numbers) ≡ None)
StopsColumn files column spec Store = ⊤
StopsColumn files column spec OutOfMemory = ⊤

-- the same of a column of a dataset, where it is damaged in some part
abbrev pub StopsIn : Option Files → Dataset → List ℕ → BuildFault → Type 0
StopsIn files dataset name (Damaged file kind want have) =
    IfSome files (λ m. IsColumnDamaged m dataset name (record { file = file; kind = kind; want = want; have = have }))
StopsIn files dataset name (TooManyBins bins limit) = (limit ≡ 1024) × (1024 < bins)
StopsIn files dataset name Store = ⊤
StopsIn files dataset name OutOfMemory = ⊤

-- ---- what it reads

-- at the values or the mask of the column in a part, or at its dictionary where it is a category
pub record IsColumnLook (dir : List ℕ) (column : Column) (look : Look) : Type 0 where
  pub number : ℕ
  pub few : number < 4096
  pub file : (look.name ≡ values_name dir number column.name) ⊎ (look.name ≡ mask_name dir number column.name)
      ⊎ ((column.ty ≡ Category) × (look.name ≡ words_name dir number column.name))
