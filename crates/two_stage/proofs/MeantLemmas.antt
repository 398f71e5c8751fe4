-- What settling a condition of a part owes by what the part means, from what is said of the condition's column.
use Rattle.std.proofs.Common.{◌≡◌, ℕ, ◌+◌, ◌*◌, ◌<◌, ◌≤◌, Bool, true, cond, IsTrue, List, [], ◌∷◌, ◌++◌, length, get_or, Option, Result, Ok, Err, IfOk, refl, sym, ap, subst, ◌∙◌}
use Rattle.std.specs.Prelude.{IfErr, IsOk}
use Rattle.std.specs.List.{AllByRecursion, filter}
use Rattle.std.proofs.lemmas.Result.{IfOk-weaker}
use Rattle.fb_outside.specs.Files.{Files}
use Rattle.fb_outside.specs.Reads.{AddsOnly, AddsReads, Look}
use Rattle.fb_outside.proofs.ReadLemmas.{AddsReads-weaken}
use Rattle.binning.specs.declared.against_bins.Three.{Three}
use Rattle.wah_logic.specs.Logic.{groups_and_rest}
use Rattle.three_valued.specs.Rows.{each_row}
use Rattle.where_plan.specs.Plans.{FitsColumn, place_in}
use Rattle.where_plan.specs.declared.plan.PlanAtom.{PlanAtom}
use Rattle.part_meta.specs.PartText.{IsPart}
use Rattle.part_meta.specs.declared.part.PartMeta.{PartMeta}
use Rattle.stages.specs.Looks.{AddsLooks, Looks}
use Rattle.stages.specs.Meaning.{Meaning}
use Rattle.world.specs.PartFiles.{part_data}
use Rattle.world.specs.World.{Partition}
use Rattle.part_meaning.specs.Bitmaps.{bitmap_looks, work_of}
use Rattle.part_meaning.specs.Columns.{PartColumn, column_at}
use Rattle.part_meaning.specs.Files.{is_bitmap_of, is_free_of}
use Rattle.part_meaning.specs.Known.{known}
use Rattle.part_meaning.specs.Meaning.{IsPartAt, Means, meaning_of}
use Rattle.part_meaning.specs.Parts.{is_bitmap_in}
use Rattle.two_stage.specs.ColumnFiles.{HasColumn}
use Rattle.two_stage.specs.Faults.{IsOutside, Stops, StopsAt}
use Rattle.two_stage.specs.Kept.{IsKept, IsKeptOf}
use Rattle.two_stage.specs.Placed.{IsColumnLook, Placed, placed_at, placed_of}
use Rattle.two_stage.specs.declared.fault.EvalFault.{EvalFault}
use Rattle.two_stage.specs.declared.open_column.OpenColumn.{OpenColumn}
use Rattle.two_stage.proofs.AnsweredLemmas.{within_schema}
use Rattle.two_stage.proofs.FileLemmas.{has_column}
use Rattle.two_stage.proofs.NameLemmas.{free_bitmaps}

-- ---- the same reads by another word for bitmaps

is_true : (b : Bool) → IsTrue b → b ≡ true
is_true b h = h

same_filter : (allowed p q : Look → Bool) (xs : List Look) → AllByRecursion (λ look. IsTrue (allowed look)) xs
    → ((look : Look) → allowed look ≡ true → q look ≡ p look) → filter q xs ≡ filter p xs
same_filter allowed p q [] h same = refl
same_filter allowed p q (x ∷ xs) h same =
    ap (λ b. cond b (x ∷ filter q xs) (filter q xs)) (same x (is_true (allowed x) h.0))
    ∙ ap (λ rest. cond (p x) (x ∷ rest) rest) (same_filter allowed p q xs h.1 same)

looks_by : (old new : Option (List Look)) (allowed p q : Look → Bool) (bitmaps : List Look) (done : Type 0) → ((look : Look) → allowed look ≡ true → q look ≡ p look)
    → AddsLooks old new allowed p bitmaps done → AddsLooks old new allowed q bitmaps done
looks_by old new allowed p q bitmaps done same h =
    AddsReads-weaken {P = Looks allowed p bitmaps done} {Q = Looks allowed q bitmaps done} old new
    (λ added looks. record {
      each = looks.each;
      left = looks.left;
      front = ap (λ (l : List Look). l ++ looks.left) (same_filter allowed p q added looks.each same) ∙ looks.front;
      whole = looks.whole;
    }) h

-- ---- what a call says where the files are those of a column

pub record SaysColumn (files : Option Files) (p : Placed) (condition : PlanAtom) (old new : Option (List Look)) {A : Type 0} (answers_in : A → List Three)
    (result : Result A EvalFault) : Type 0 where
  pub answers : IfOk result (λ settled. (column : PartColumn) → HasColumn files p column → answers_in settled ≡ each_row p.rows (known column condition))
  pub whole : IfErr result (λ fault. (column : PartColumn) → HasColumn files p column → IsOutside fault)
  pub reads : (column : PartColumn) → HasColumn files p column
      → AddsLooks old new (is_free_of p.dir p.number column) (is_bitmap_of p.dir p.number column) (bitmap_looks p.dir p.number column condition) (IsOk result)

-- and by what a part means
pub record IsMeant (files : Option Files) (dir : List ℕ) (meta : PartMeta) (condition : PlanAtom) (old new : Option (List Look)) {A : Type 0} (answers_in : A → List Three)
    (result : Result A EvalFault) : Type 0 where
  pub answers : IfOk result (λ settled. (m : Meaning) → Means files dir meta m → answers_in settled ≡ each_row m.rows (λ row. m.answer row condition))
  pub whole : IfErr result (λ fault. (m : Meaning) → Means files dir meta m → IsOutside fault)
  pub reads : (m : Meaning) → Means files dir meta m → AddsLooks old new (m.is_free condition) m.is_bitmap (m.fetched condition) (IsOk result)

err_weaker : {A E : Type 0} (result : Result A E) (P Q : E → Type 0) → ((e : E) → P e → Q e) → IfErr result P → IfErr result Q
err_weaker (Ok x) P Q f h = tt
err_weaker (Err e) P Q f h = f e h

module _ (files : Option Files) (dir : List ℕ) (meta : PartMeta) (valid : IsPart meta) (condition : PlanAtom) (within : place_in condition < length meta.schema) where
  abbrev its : Partition → PartColumn
  its part = column_at meta.schema part (place_in condition)

  abbrev place : Placed
  place = placed_at dir meta (place_in condition)

  its_has : (m : Meaning) (means : Means files dir meta m) → HasColumn files place (its means.part)
  its_has m means = has_column files dir meta means.part (place_in condition) means.has within

  rows_are : (m : Meaning) (means : Means files dir meta m) → meta.rows ≡ m.rows
  rows_are m means = ap (λ (p : PartMeta). p.rows) means.has.is ∙ ap (λ (x : Meaning). x.rows) (sym means.meant)

  meant_answers : (answers : List Three) → ((column : PartColumn) → HasColumn files place column → answers ≡ each_row meta.rows (known column condition))
      → (m : Meaning) → Means files dir meta m → answers ≡ each_row m.rows (λ row. m.answer row condition)
  meant_answers answers says m means =
      says (its means.part) (its_has m means)
      ∙ ap (λ (n : ℕ). each_row n (known (its means.part) condition)) (rows_are m means)
      ∙ ap (λ (x : Meaning). each_row m.rows (λ row. x.answer row condition)) (sym means.meant)

  meant_steps : (before now : ℕ) → ((column : PartColumn) → HasColumn files place column → now ≤ before + 2 * groups_and_rest meta.rows * work_of column condition)
      → (m : Meaning) → Means files dir meta m → now ≤ before + 2 * groups_and_rest m.rows * m.work condition
  meant_steps before now says m means =
      subst (λ (x : Meaning). now ≤ before + 2 * groups_and_rest m.rows * x.work condition) (sym means.meant)
      (subst (λ (n : ℕ). now ≤ before + 2 * groups_and_rest n * work_of (its means.part) condition) (rows_are m means)
      (says (its means.part) (its_has m means)))

  meant_reads : (old new : Option (List Look)) (done : Type 0)
      → ((column : PartColumn) → HasColumn files place column
      → AddsLooks old new (is_free_of dir meta.number column) (is_bitmap_of dir meta.number column) (bitmap_looks dir meta.number column condition) done)
      → (m : Meaning) → Means files dir meta m → AddsLooks old new (m.is_free condition) m.is_bitmap (m.fetched condition) done
  meant_reads old new done says m means =
      let part = means.part in
      let column = its part in
      let number : meta.number ≡ part.number = ap (λ (p : PartMeta). p.number) means.has.is in
      subst (λ (x : Meaning). AddsLooks old new (x.is_free condition) x.is_bitmap (x.fetched condition) done) (sym means.meant)
      (looks_by old new (is_free_of dir part.number column) (is_bitmap_of dir part.number column) (is_bitmap_in dir meta.schema part) (bitmap_looks dir part.number column condition) done
      (λ look free. free_bitmaps dir meta part valid means.has.is (place_in condition) within look free)
      (subst (λ (n : ℕ). AddsLooks old new (is_free_of dir n column) (is_bitmap_of dir n column) (bitmap_looks dir n column condition) done) number
      (says column (its_has m means))))

  meant_here : (old new : Option (List Look)) {A : Type 0} (answers_in : A → List Three) (result : Result A EvalFault)
      → SaysColumn files place condition old new answers_in result → IsMeant files dir meta condition old new answers_in result
  meant_here old new answers_in result says = record {
    answers = IfOk-weaker result _ _ (λ settled h. meant_answers (answers_in settled) h) says.answers;
    whole = err_weaker result _ _ (λ fault h m means. h (its means.part) (its_has m means)) says.whole;
    reads = meant_reads old new (IsOk result) says.reads;
  }

-- ---- of a condition on the column at a place

module _ (files : Option Files) (dir : List ℕ) (meta : PartMeta) (valid : IsPart meta) (condition : PlanAtom) (of : ℕ → PlanAtom) (col : ℕ)
    (is : condition ≡ of col) (at : place_in (of col) ≡ col) (fits : FitsColumn meta.schema condition) (p : Placed) (placed : p ≡ placed_at dir meta col) where
  there : p ≡ placed_at dir meta (place_in condition)
  there = placed ∙ ap (placed_at dir meta) (sym at ∙ ap place_in (sym is))

  same : of p.col ≡ condition
  same = ap (λ (q : Placed). of q.col) placed ∙ sym is

  pub meant : (old new : Option (List Look)) {A : Type 0} (answers_in : A → List Three) (result : Result A EvalFault)
      → SaysColumn files p (of p.col) old new answers_in result → IsMeant files dir meta condition old new answers_in result
  meant old new answers_in result says =
      meant_here files dir meta valid condition (within_schema meta.schema condition fits) old new answers_in result
      (subst (λ (q : Placed). SaysColumn files q condition old new answers_in result) there
      (subst (λ (c : PlanAtom). SaysColumn files p c old new answers_in result) same says))

  pub meant_work : (before now : ℕ) → ((column : PartColumn) → HasColumn files p column → now ≤ before + 2 * groups_and_rest p.rows * work_of column (of p.col))
      → (m : Meaning) → Means files dir meta m → now ≤ before + 2 * groups_and_rest m.rows * m.work condition
  meant_work before now says =
      meant_steps files dir meta valid condition (within_schema meta.schema condition fits) before now
      (subst (λ (q : Placed). (column : PartColumn) → HasColumn files q column → now ≤ before + 2 * groups_and_rest q.rows * work_of column condition) there
      (subst (λ (c : PlanAtom). (column : PartColumn) → HasColumn files p column → now ≤ before + 2 * groups_and_rest p.rows * work_of column c) same says))

  -- its reads, its fault, its open column and the number of its answers
  pub meant_looks : (old new : Option (List Look)) → AddsOnly (IsColumnLook p) old new → AddsOnly (IsColumnLook (placed_of dir meta condition)) old new
  meant_looks old new h = subst (λ (q : Placed). AddsOnly (IsColumnLook q) old new) there h

  pub meant_stop : {A : Type 0} (result : Result A EvalFault) → IfErr result (StopsAt files p) → IfErr result (Stops files dir meta condition)
  meant_stop result h = subst (λ (q : Placed). IfErr result (StopsAt files q)) there h

  pub meant_kept : {A : Type 0} (column_in : A → OpenColumn) (result : Result A EvalFault) → IfOk result (λ settled. IsKeptOf files p (of p.col) (column_in settled))
      → IfOk result (λ settled. IsKept files dir meta condition (column_in settled))
  meant_kept column_in result h =
      subst (λ (q : Placed). IfOk result (λ settled. IsKeptOf files q condition (column_in settled))) there
      (subst (λ (c : PlanAtom). IfOk result (λ settled. IsKeptOf files p c (column_in settled))) same h)

  pub meant_length : {A : Type 0} (answers_in : A → List Three) (result : Result A EvalFault) → IfOk result (λ settled. length (answers_in settled) ≡ p.rows)
      → IfOk result (λ settled. length (answers_in settled) ≡ meta.rows)
  meant_length answers_in result h = subst (λ (q : Placed). IfOk result (λ settled. length (answers_in settled) ≡ q.rows)) there h
