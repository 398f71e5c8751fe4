-- An open index of a column: what its bins say, which bitmaps they need, and what a fault among these says of the file.
use Rattle.std.proofs.Common.{◌≡◌, ◌⊎◌, inl, inr, ℕ, ◌+◌, ◌*◌, ◌<◌, ◌≤◌, Bool, true, false, List, [], ◌∷◌, All, length, map, Option, Some, None, Result, Ok, Err, IfSome, is_some, refl, sym, ap, subst, ◌∙◌, arith}
use Rattle.std.specs.Prelude.{slice_index}
use Rattle.std.specs.List.{flat_map}
use Rattle.std.proofs.lemmas.List.{length-map}
use Rattle.std.proofs.lemmas.List.Elements.{All-head, All-tail}
use Rattle.fb_outside.specs.Files.{Files, bytes_at, file_at}
use Rattle.fb_outside.specs.Reads.{AddsReads, Look}
use Rattle.wah_logic.specs.Logic.{groups_and_rest}
use Rattle.index_spec.specs.Members.{needed}
use Rattle.index_spec.specs.declared.spec.Spec.{Spec}
use Rattle.index_file.specs.Fetching.{bitmap_in}
use Rattle.index_file.specs.Opening.{Head, index_in}
use Rattle.index_file.specs.Places.{bitmap_look, room_at}
use Rattle.index_file.specs.declared.edge.Edge.{Edge}
use Rattle.index_file.specs.declared.fault.IndexFault.{IndexFault}
use Rattle.index_file.specs.declared.fault.IndexFault.TheVariants as index
use Rattle.index_file.specs.declared.head.IndexHead.{IndexHead}
use Rattle.binning.specs.Against.{against}
use Rattle.binning.specs.declared.against_bins.Three.{Three}
use Rattle.binning.specs.declared.gathering.Bin.{Bin}
use Rattle.binning.specs.declared.span_lists.Span.{Span}
use Rattle.three_valued.specs.Rows.{each_row}
use Rattle.part_meta.specs.FileNames.{index_name}
use Rattle.where_plan.specs.declared.plan.PlanAtom.TheVariants as atom
use Rattle.world.specs.IndexFiles.{edge_of}
use Rattle.bin_answers.specs.BinRuns.{runs_of}
use Rattle.bin_answers.specs.Bins.{bin_answer, edges_say}
use Rattle.bin_answers.specs.Fetched.{Fetches, HasBins, IsFrontOf, StopsIn, bitmap_at, fault_or, first_fault, needed_by, needed_on, runs_on}
use Rattle.bin_answers.specs.Fetched.{IsOutside as IsBinsOutside}
use Rattle.bin_answers.specs.declared.fault.BinsFault.{BinsFault}
use Rattle.bin_answers.specs.declared.fault.BinsFault.TheVariants as bins
use Rattle.bin_answers.proofs.IndexLemmas.{head_below}
use Rattle.part_meaning.specs.Bitmaps.{bins_say, bitmap_looks, index_places, looks_under, needed_of, needed_under, work_of}
use Rattle.part_meaning.specs.Columns.{PartColumn, bins_in, present_rows}
use Rattle.part_meaning.specs.Known.{bin_says, known}
use Rattle.two_stage.specs.ColumnFiles.{HasColumn, IsHeadOf, head_under}
use Rattle.two_stage.specs.Faults.{IsIndexFault, IsOutside, OfBitmap, OfHead, StopsAt, bins_fault, index_fault}
use Rattle.two_stage.specs.Opened.{head_said}
use Rattle.two_stage.specs.Placed.{Placed, index_file}
use Rattle.two_stage.proofs.OpenLemmas.{index_is}

-- ---- what the head says

record Says (column : PartColumn) (head : IndexHead) : Type 0 where
  spec : column.spec ≡ Some head.spec
  bins : head.bins ≡ map edge_of (bins_in column)
  places : head.offsets ≡ index_places head.spec column

says_by : (column : PartColumn) (head : IndexHead) (o : Option Spec) → column.spec ≡ o → head_under o column ≡ Some (head_said head) → Says column head
says_by column head None e h = absurd cc
says_by column head (Some spec) e h =
    let same : record { spec = spec; bins = map edge_of (bins_in column); places = index_places spec column } ≡ head_said head = cc in
    let its : spec ≡ head.spec = ap (λ (x : Head). x.spec) same in
    record {
      spec = e ∙ ap Some its;
      bins = sym (ap (λ (x : Head). x.bins) same);
      places = sym (ap (λ (x : Head). x.places) same) ∙ ap (λ s. index_places s column) its;
    }

module _ (column : PartColumn) (head : IndexHead) (col : ℕ) (spans : List Span) (says : Says column head) where
  each_same : (bins : List Bin) → edges_say (map edge_of bins) spans ≡ map (bin_says column (atom.Whole col spans)) bins
  unfolding bin_says
  each_same [] = refl
  each_same (bin ∷ bins) = ap (λ l. against bin.least bin.greatest spans ∷ l) (each_same bins)

  say_same : edges_say head.bins spans ≡ bins_say column (atom.Whole col spans)
  unfolding bins_say
  say_same = ap (λ (edges : List Edge). edges_say edges spans) says.bins ∙ each_same (bins_in column)

  runs_same : runs_on head spans ≡ runs_of (bins_say column (atom.Whole col spans))
  runs_same = ap runs_of say_same

  bins_number : length head.bins ≡ length (bins_in column)
  bins_number = ap length says.bins ∙ length-map (bins_in column) edge_of

  needed_same : needed_on head spans ≡ needed_of column (atom.Whole col spans)
  unfolding needed_of
  needed_same =
      ap (λ (n : ℕ). flat_map (λ r. needed head.spec.encoding n r.first r.past) (runs_on head spans)) bins_number
      ∙ ap (flat_map (λ r. needed head.spec.encoding (length (bins_in column)) r.first r.past)) runs_same
      ∙ ap (λ o. needed_under o column (atom.Whole col spans)) (sym says.spec)

  work_same : 4 * (length (needed_on head spans) + length (runs_on head spans)) ≡ work_of column (atom.Whole col spans)
  unfolding work_of
  work_same =
      ap (λ (l : List ℕ). 4 * (length l + length (runs_on head spans))) needed_same
      ∙ ap (λ l. 4 * (length (needed_of column (atom.Whole col spans)) + length l)) runs_same

  looks_same : (p : Placed) → column.name ≡ p.column.name → head.name ≡ index_file p
      → map (bitmap_look head.name head.offsets) (needed_on head spans) ≡ bitmap_looks p.dir p.number column (atom.Whole col spans)
  unfolding bitmap_looks
  looks_same p named name =
      ap (λ n. map (bitmap_look n head.offsets) (needed_on head spans)) (name ∙ ap (index_name p.dir p.number) (sym named))
      ∙ ap (λ (places : List ℕ). map (bitmap_look (index_name p.dir p.number column.name) places) (needed_on head spans)) says.places
      ∙ ap (map (bitmap_look (index_name p.dir p.number column.name) (index_places head.spec column))) needed_same
      ∙ ap (λ o. looks_under o (index_name p.dir p.number column.name) column (atom.Whole col spans)) (sym says.spec)

-- ---- over the files of a column

some_file : (rows : ℕ) (o : Option (List ℕ)) (head : Head) → index_in rows o ≡ Ok (Some head) → is_some o ≡ true
some_file rows None head e = absurd cc
some_file rows (Some bytes) head e = refl

module _ (files : Option Files) (p : Placed) (column : PartColumn) (head : IndexHead) (spans : List Span) (has : HasColumn files p column)
    (name : head.name ≡ index_file p) (rows : head.rows ≡ p.rows)
    (opened : IfSome files (λ m. index_in p.rows (file_at m (index_file p)) ≡ Ok (Some (head_said head)))) where
  of_column : IsHeadOf p column head
  of_column = index_is files p column has head name rows opened

  its : Says column head
  its = says_by column head column.spec refl of_column.says

  pub has_bins : (mask : List Bool) → mask ≡ present_rows column → HasBins files head mask (bins_in column)
  has_bins mask e = subst (λ (v : List Bool). HasBins files head v (bins_in column)) (sym e) (has.bitmaps head of_column)

  pub index_answers : (mask : List Bool) (answers : List Three) → length mask ≡ head.rows → answers ≡ each_row (length mask) (bin_answer spans (bins_in column))
      → answers ≡ each_row p.rows (known column (atom.Whole p.col spans))
  unfolding known bin_says
  index_answers mask answers long said = said ∙ ap (λ (n : ℕ). each_row n (bin_answer spans (bins_in column))) (long ∙ rows)

  pub index_steps : (mask : List Bool) (old new : ℕ) → length mask ≡ head.rows
      → new ≤ old + 2 * groups_and_rest (length mask) * (4 * (length (needed_on head spans) + length (runs_on head spans)))
      → new ≤ old + 2 * groups_and_rest p.rows * work_of column (atom.Whole p.col spans)
  index_steps mask old new long h =
      subst (λ (w : ℕ). new ≤ old + 2 * groups_and_rest p.rows * w) (work_same column head p.col spans its)
      (subst (λ (n : ℕ). new ≤ old + 2 * groups_and_rest n * (4 * (length (needed_on head spans) + length (runs_on head spans)))) (long ∙ rows) h)

  pub index_reads : (old new : Option (List Look)) (done : Type 0) → Fetches files old new head (needed_on head spans) done
      → AddsReads old new (IsFrontOf (bitmap_looks p.dir p.number column (atom.Whole p.col spans)) done)
  index_reads old new done h =
      let there = subst (λ (o : Option Files). IfSome o (λ m. index_in p.rows (file_at m (index_file p)) ≡ Ok (Some (head_said head)))) has.told opened in
      let is : is_some (file_at has.m head.name) ≡ true = ap (λ n. is_some (file_at has.m n)) name ∙ some_file p.rows (file_at has.m (index_file p)) (head_said head) there in
      subst (λ (l : List Look). AddsReads old new (IsFrontOf l done)) (looks_same column head p.col spans its p has.named name) (h has.m has.told is)

-- ---- faults

pub bins_outside : (col : ℕ) (fault : BinsFault) → IsBinsOutside fault → IsOutside (bins_fault col fault)
bins_outside col (bins.Index index.Short) h = absurd h
bins_outside col (bins.Index index.Magic) h = absurd h
bins_outside col (bins.Index (index.Version v)) h = absurd h
bins_outside col (bins.Index (index.Rows want have)) h = absurd h
bins_outside col (bins.Index index.Spec) h = absurd h
bins_outside col (bins.Index (index.Order k)) h = absurd h
bins_outside col (bins.Index (index.Count want have)) h = absurd h
bins_outside col (bins.Index (index.Offsets k)) h = absurd h
bins_outside col (bins.Index (index.Bitmap k why)) h = absurd h
bins_outside col (bins.Index (index.BitmapTrailing k)) h = absurd h
bins_outside col (bins.Index (index.BitmapLength k)) h = absurd h
bins_outside col (bins.Index index.Store) h = inl tt
bins_outside col (bins.Index index.OutOfMemory) h = absurd h
bins_outside col bins.OutOfMemory h = inr tt

record IsFaulty (m : Files) (head : IndexHead) (why : IndexFault) : Type 0 where
  k : ℕ
  below : k + 1 < length head.offsets
  is : bitmap_at m head k ≡ Err why

found : (m : Files) (head : IndexHead) (why : IndexFault) (numbers : List ℕ) → All (λ k. k + 1 < length head.offsets) numbers → first_fault m head numbers ≡ Some why
    → IsFaulty m head why
unfolding first_fault
found m head why [] all e = absurd cc
found m head why (k ∷ ks) all e = by (bitmap_at m head k) refl e (λ f. found m head why ks (All-tail (λ k. k + 1 < length head.offsets) k ks all) f)
  where
    by : (r : Result (List Bool) IndexFault) → bitmap_at m head k ≡ r → fault_or r (first_fault m head ks) ≡ Some why
        → (first_fault m head ks ≡ Some why → IsFaulty m head why) → IsFaulty m head why
    by (Ok bits) h f more = more f
    by (Err own) h f more =
        let same : own ≡ why = cc in
        record { k = k; below = All-head (λ k. k + 1 < length head.offsets) k ks all; is = h ∙ ap Err same }

index_stops : (files : Option Files) (p : Placed) (why : IndexFault) → ((why ≡ index.Store → ⊥) → IfSome files (λ m. IsIndexFault m p why)) → StopsAt files p (index_fault p.col why)
index_stops files p index.Short f = (refl, f (λ e. absurd cc))
index_stops files p index.Magic f = (refl, f (λ e. absurd cc))
index_stops files p (index.Version v) f = (refl, f (λ e. absurd cc))
index_stops files p (index.Rows want have) f = (refl, f (λ e. absurd cc))
index_stops files p index.Spec f = (refl, f (λ e. absurd cc))
index_stops files p (index.Order k) f = (refl, f (λ e. absurd cc))
index_stops files p (index.Count want have) f = (refl, f (λ e. absurd cc))
index_stops files p (index.Offsets k) f = (refl, f (λ e. absurd cc))
index_stops files p (index.Bitmap k why) f = (refl, f (λ e. absurd cc))
index_stops files p (index.BitmapTrailing k) f = (refl, f (λ e. absurd cc))
index_stops files p (index.BitmapLength k) f = (refl, f (λ e. absurd cc))
index_stops files p index.Store f = (refl, tt)
index_stops files p index.OutOfMemory f = tt

pub bins_stop : (files : Option Files) (p : Placed) (head : IndexHead) (spans : List Span) (fault : BinsFault) → head.name ≡ index_file p → head.rows ≡ p.rows
    → IfSome files (λ m. index_in p.rows (file_at m (index_file p)) ≡ Ok (Some (head_said head)))
    → StopsIn files head (needed_on head spans) fault → StopsAt files p (bins_fault p.col fault)
bins_stop files p head spans bins.OutOfMemory name rows opened stop = tt
bins_stop files p head spans (bins.Index why) name rows opened stop = index_stops files p why (λ other. by files refl opened other)
  where
    by : (o : Option Files) → files ≡ o → IfSome o (λ m. index_in p.rows (file_at m (index_file p)) ≡ Ok (Some (head_said head))) → (why ≡ index.Store → ⊥)
        → IfSome o (λ m. IsIndexFault m p why)
    by None e h other = tt
    by (Some m) e h other =
        let f = found m head why (needed_on head spans) (head_below head spans head.given head.counted) (stop.first m why e refl other) in
        OfBitmap (head_said head) f.k h f.below
        (ap (λ n. bitmap_in f.k p.rows (room_at head.offsets f.k) (bytes_at m n (slice_index head.offsets f.k) (room_at head.offsets f.k))) (sym name)
        ∙ ap (λ (r : ℕ). bitmap_in f.k r (room_at head.offsets f.k) (bytes_at m head.name (slice_index head.offsets f.k) (room_at head.offsets f.k))) (sym rows)
        ∙ f.is)
