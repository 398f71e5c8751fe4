-- An index is built of an opened column, and its reads and files are the column's.
use Rattle.std.proofs.Common.{◌≡◌, ◌≢◌, inl, inr, ◌*◌, ◌<◌, ◌≤◌, ℕ, ℤ, Bool, List, Option, Some, Result, Ok, Err, IsSome, length, map, take, refl, sym, ap, subst, ◌∙◌, arith}
use Rattle.std.specs.Prelude.{IfErr}
use Rattle.std.specs.List.{All}
use Rattle.std.proofs.Math.Seq.{take-length}
use Rattle.fb_outside.specs.Files.{ChangesOnly, Files, PutLeaves, SameFiles, file_at, told_at}
use Rattle.fb_types.specs.declared.schemas.Column.{Column}
use Rattle.fb_types.specs.declared.types.ColType.{ColType}
use Rattle.wah_words.specs.Bytes.{spelling}
use Rattle.column_file.specs.declared.column.ColumnRef.{ColumnRef}
use Rattle.index_spec.specs.Counts.{bitmap_count}
use Rattle.index_spec.specs.Language.{IsGivenBinning}
use Rattle.index_spec.specs.declared.spec.EncodingSpec.{EncodingSpec}
use Rattle.index_spec.specs.declared.spec.Spec.{Spec}
use Rattle.part_meta.specs.declared.part.PartMeta.{PartMeta}
use Rattle.binning.specs.Bins.{cells, present}
use Rattle.binning.specs.declared.gathering.Bin.{Bin}
use Rattle.binning.proofs.ColumnLemmas.{length-cells}
use Rattle.binning.proofs.KeyLemmas.{kept_of}
use Rattle.dataset.specs.PartColumns.{IsOpened, column_at, mask_file}
use Rattle.dataset.specs.declared.content.Dataset.{Dataset}
use Rattle.binning.specs.Encodings.{vectors}
use Rattle.binning.specs.Members.{bitmaps_of}
use Rattle.column_file.specs.Opening.{column_in}
use Rattle.column_file.specs.Values.{ValueFits, values_bytes, width_in}
use Rattle.column_file.proofs.OpeningLemmas.{column_opens}
use Rattle.column_file.proofs.ValuesLemmas.{length-values_bytes}
use Rattle.fb_outside.proofs.FileLemmas.{ChangesAmong-same, ChangesOnly-puts}
use Rattle.index_file.specs.IndexFile.{index_bytes}
use Rattle.index_build.specs.declared.fault.BuildFault.{BuildFault}
use Rattle.index_build.specs.declared.fault.BuildFault.TheVariants.{Damaged, TooManyBins, Store, OutOfMemory}
use Rattle.index_build.specs.declared.writing.Built.{Built}
use Rattle.index_build.specs.Build.{AnswersOver, HasRows, IsShort, LeavesIndex, StopsColumn, bin_count}
use Rattle.index_build.proofs.IndexLemmas.{over_limit}
use Rattle.index_build.specs.Index.{AreBinsOf, AreOfColumn, HasNumbers, Tells}
use Rattle.world.specs.IndexFiles.{bins_by, edge_of, index_of, keys_by}

-- what was read of a column makes bins of a column
pub read_bins : (files : Option Files) (column : ColumnRef) (spec : Spec) (bins : List Bin) → IsGivenBinning spec.binning → length column.mask ≡ column.rows
    → AreBinsOf files column (keys_by spec column.mask) bins → AreOfColumn column.rows bins
read_bins files column spec bins given size h =
    let same : length column.mask ≡ length h.numbers = size ∙ sym h.read.number in
    record {
      keys = keys_by spec column.mask h.numbers;
      column = cells column.mask h.numbers;
      kept = kept_of spec.binning (present (cells column.mask h.numbers)) given;
      long = length-cells column.mask h.numbers same ∙ size;
      are = h.are;
    }

-- over a file that is told these are the bins of its numbers
pub told_bins : (files : Option Files) (column : ColumnRef) (spec : Spec) (bins : List Bin) (numbers : List ℤ)
    → AreBinsOf files column (keys_by spec column.mask) bins → HasNumbers files column numbers → bins ≡ bins_by spec column.mask numbers
told_bins files column spec bins numbers h has =
    let same : h.numbers ≡ numbers = h.read.told numbers has ∙ ap (λ n. take n numbers) (sym has.rows) ∙ take-length numbers in
    h.are ∙ ap (bins_by spec column.mask) same

-- ---- what is written

index-bytes : (spec : Spec) (mask : List Bool) (numbers : List ℤ) (bins : List Bin) (rows : ℕ) → bins ≡ bins_by spec mask numbers → length mask ≡ rows
    → index_bytes rows spec (map edge_of bins) (bitmaps_of spec.encoding rows (vectors bins)) ≡ index_of spec mask numbers
unfolding index_of
index-bytes spec mask numbers bins rows are size =
    ap (λ (bs : List Bin). index_bytes rows spec (map edge_of bs) (bitmaps_of spec.encoding rows (vectors bs))) are
    ∙ ap (λ (n : ℕ). index_bytes n spec (map edge_of (bins_by spec mask numbers)) (bitmaps_of spec.encoding n (vectors (bins_by spec mask numbers)))) (sym size)

-- what is written of the bins that were read is the index of the rows
pub leaves_read : (r : Result Built BuildFault) (spec : Spec) (mask : List Bool) (numbers : List ℤ) (bins : List Bin) (rows : ℕ) (name : List ℕ)
    (old mid new : Option Files) → mid ≡ old → bins ≡ bins_by spec mask numbers → length mask ≡ rows
    → LeavesIndex spec.encoding (length bins) name (index_bytes rows spec (map edge_of bins) (bitmaps_of spec.encoding rows (vectors bins))) r mid new
    → LeavesIndex spec.encoding (bin_count spec mask numbers) name (index_of spec mask numbers) r old new
leaves_read r spec mask numbers bins rows name old mid new kept are size h =
    subst (λ (files : Option Files). LeavesIndex spec.encoding (bin_count spec mask numbers) name (index_of spec mask numbers) r files new) kept
    (subst (λ (n : ℕ). LeavesIndex spec.encoding n name (index_of spec mask numbers) r mid new) (ap length are)
    (subst (λ (bytes : List ℕ). LeavesIndex spec.encoding (length bins) name bytes r mid new) (index-bytes spec mask numbers bins rows are size) h))

pub answers_read : (r : Result Built BuildFault) (spec : Spec) (mask : List Bool) (numbers : List ℤ) (bins : List Bin) → bins ≡ bins_by spec mask numbers
    → AnswersOver spec.encoding (length bins) r → AnswersOver spec.encoding (bin_count spec mask numbers) r
answers_read r spec mask numbers bins are h = subst (λ (n : ℕ). AnswersOver spec.encoding n r) (ap length are) h

pub written_kept : (r : Result Built BuildFault) (encoding : EncodingSpec) (n : ℕ) (name bytes : List ℕ) (old mid new : Option Files) → mid ≡ old
    → LeavesIndex encoding n name bytes r mid new → ChangesOnly name old new
written_kept r encoding n name bytes old mid new same h = subst (λ (files : Option Files). ChangesOnly name files new) same (by r h)
  where
    by : (r : Result Built BuildFault) → LeavesIndex encoding n name bytes r mid new → ChangesOnly name mid new
    by (Ok built) h = ChangesOnly-puts mid new name bytes h.0
    by (Err fault) (inl same) = ChangesAmong-same mid new same
    by (Err fault) (inr put) = ChangesOnly-puts mid new name bytes put.0

pub stops_written : (r : Result Built BuildFault) (files : Option Files) (column : ColumnRef) (spec : Spec) (bins : List Bin)
    → ((numbers : List ℤ) → HasNumbers files column numbers → bins ≡ bins_by spec column.mask numbers)
    → AnswersOver spec.encoding (length bins) r → IfErr r (StopsColumn files column spec)
stops_written (Ok built) files column spec bins told h = tt
stops_written (Err (Damaged file kind want have)) files column spec bins told h = absurd h
stops_written (Err (TooManyBins bins' limit)) files column spec bins told h = (
  h.2,
  subst (λ (n : ℕ). 1024 < n) (sym h.1) (over_limit spec.encoding (length bins) h.0),
  λ numbers has. ap (λ (bs : List Bin). bitmap_count spec.encoding (length bs)) (sym (told numbers has)) ∙ h.0,
)
stops_written (Err Store) files column spec bins told h = tt
stops_written (Err OutOfMemory) files column spec bins told h = tt

pub answers_told : (encoding : EncodingSpec) (n : ℕ) (fault : BuildFault) → Tells encoding n fault → AnswersOver encoding n (Err fault)
answers_told encoding n (Damaged file kind want have) h = h
answers_told encoding n (TooManyBins bins limit) h = h
answers_told encoding n Store h = tt
answers_told encoding n OutOfMemory h = tt

pub leaves_put : (encoding : EncodingSpec) (n : ℕ) (name bytes : List ℕ) (fault : BuildFault) (old new : Option Files) → PutLeaves name bytes old new
    → IsSome (bitmap_count encoding n) → LeavesIndex encoding n name bytes (Err fault) old new
leaves_put encoding n name bytes fault old new (inl same) some = inl same
leaves_put encoding n name bytes fault old new (inr put) some = inr (put, some)

-- what stopped before anything was written
pub leaves_stopped : (r : Result Built BuildFault) (encoding : EncodingSpec) (n : ℕ) (name bytes : List ℕ) (old new : Option Files)
    → ((built : Built) → r ≢ Ok built) → SameFiles old new → LeavesIndex encoding n name bytes r old new
leaves_stopped (Ok built) encoding n name bytes old new never same = absurd (never built refl)
leaves_stopped (Err fault) encoding n name bytes old new never same = inl same

pub short_stops : (files : Option Files) (column : ColumnRef) (spec : Spec) (want have : ℕ) (fault : BuildFault)
    → ((bytes : List ℕ) → told_at files column.name ≡ Some bytes → length bytes ≢ column.rows * width_in column.ty)
    → IsShort column.name want have fault → StopsColumn files column spec fault
short_stops files column spec want have (Damaged file kind want' have') other h = (h.0, h.1, other)
short_stops files column spec want have OutOfMemory other h = tt
short_stops files column spec want have (TooManyBins bins limit) other h = absurd h
short_stops files column spec want have Store other h = absurd h

-- the bytes of numbers are as many as a column of them has
pub numbers_whole : (files : Option Files) (column : ColumnRef) (numbers : List ℤ) → HasNumbers files column numbers
    → length (values_bytes column.ty numbers) ≡ column.rows * width_in column.ty
numbers_whole files column numbers has = length-values_bytes column.ty numbers ∙ ap (λ (n : ℕ). n * width_in column.ty) has.rows

-- ---- a part's column, opened

-- files with these rows open
pub rows_open : (files : Files) (dataset : Dataset) (part : PartMeta) (column : Column) (mask : List Bool) (numbers : List ℤ) → part.rows ≤ 4194304
    → HasRows files dataset.dir part column mask numbers → column_at files dataset part column ≡ Ok mask
rows_open files dataset part column mask numbers few has =
    let w = width_in column.ty in
    ap (λ (o : Option (List ℕ)). column_in w part.rows o (file_at files (mask_file dataset part column))) has.values
    ∙ ap (λ (o : Option (List ℕ)). column_in w part.rows (Some (values_bytes column.ty numbers)) o) has.present
    ∙ ap (λ (k : ℕ). column_in w k (Some (values_bytes column.ty numbers)) (Some (spelling mask))) (sym has.each)
    ∙ column_opens column.ty numbers mask (omega (arith, has.long, few)) (has.long ∙ sym has.each)

pub opened_numbers : (files : Option Files) (m : Files) (dataset : Dataset) (part : PartMeta) (column : Column) (mask : List Bool) (numbers : List ℤ)
    (opened : ColumnRef) → files ≡ Some m → IsOpened dataset part column opened → HasRows m dataset.dir part column mask numbers
    → HasNumbers files opened numbers
opened_numbers files m dataset part column mask numbers opened told is has =
    record {
      told = ap (λ (o : Option Files). told_at o opened.name) told ∙ ap (file_at m) is.file ∙ has.values
          ∙ ap (λ (ty : ColType). Some (values_bytes ty numbers)) (sym is.typed);
      fit = subst (λ (ty : ColType). All (λ number. ValueFits number ty) numbers) (sym is.typed) has.fit;
      rows = has.each ∙ sym is.rows;
    }

pub leaves_opened : (r : Result Built BuildFault) (spec : Spec) (opened mask : List Bool) (numbers : List ℤ) (given name : List ℕ) (old mid new : Option Files)
    → opened ≡ mask → given ≡ name → mid ≡ old
    → LeavesIndex spec.encoding (bin_count spec opened numbers) given (index_of spec opened numbers) r mid new
    → LeavesIndex spec.encoding (bin_count spec mask numbers) name (index_of spec mask numbers) r old new
leaves_opened r spec opened mask numbers given name old mid new same called kept h =
    subst (λ (bits : List Bool). LeavesIndex spec.encoding (bin_count spec bits numbers) name (index_of spec bits numbers) r old new) same
    (subst (λ (q : List ℕ). LeavesIndex spec.encoding (bin_count spec opened numbers) q (index_of spec opened numbers) r old new) called
    (subst (λ (files : Option Files). LeavesIndex spec.encoding (bin_count spec opened numbers) given (index_of spec opened numbers) r files new) kept h))
