-- A column of numbers is opened with a category's dictionary, or its first damage is told.
use Rattle.std.proofs.Common.{◌≡◌, ◌≢◌, ◌*◌, ◌<◌, ◌≤◌, inl, inr, ℕ, ℤ, Bool, true, false, eqb, eqb-true, List, Option, Some, None, Result, Ok, Err, IsSome, length, refl, sym, ap, subst, ◌∙◌}
use Rattle.std.specs.Prelude.{⊤, IfErr, IfSome}
use Rattle.std.specs.List.{slice_get}
use Rattle.fb_outside.specs.Files.{Files, file_at}
use Rattle.fb_outside.specs.Reads.{AddsOnly, IsWholeLook, Look}
use Rattle.fb_outside.proofs.ReadLemmas.{AddsOnly-trans, AddsOnly-weaken}
use Rattle.fb_types.specs.declared.schemas.Column.{Column}
use Rattle.fb_types.specs.declared.types.ColType.{ColType}
use Rattle.fb_types.specs.declared.types.ColType.TheVariants.{Category}
use Rattle.fb_types.specs.Types.{width_of}
use Rattle.column_file.specs.declared.column.ColumnRef.{ColumnRef}
use Rattle.column_file.specs.declared.fault.ColFault.TheVariants as column_
use Rattle.column_file.specs.Opening.{column_in}
use Rattle.column_file.specs.Values.{width_in}
use Rattle.index_spec.specs.declared.spec.EncodingSpec.{EncodingSpec}
use Rattle.index_spec.specs.declared.spec.Spec.{Spec}
use Rattle.part_meta.specs.declared.part.PartMeta.{PartMeta}
use Rattle.dataset.specs.Damage.{Damage, IsDamagedAt}
use Rattle.dataset.specs.Damage.IsDamagedAt.{NoColumn, NoDictionary}
use Rattle.dataset.specs.PartColumns.{IsOpened, OpensColumn, OpensDictionary, column_at, mask_file, values_file, words_file}
use Rattle.dataset.specs.declared.content.Dataset.{Dataset}
use Rattle.dataset.specs.declared.fault.PartFault.{PartFault}
use Rattle.dataset.specs.declared.fault.PartFault.TheVariants.{Damaged, Store, OutOfMemory}
use Rattle.dataset.proofs.ColumnLemmas.{words_read}
use Rattle.dataset.proofs.DamageLemmas.{same_damage}
use Rattle.index_build.specs.declared.fault.BuildFault.{BuildFault}
use Rattle.index_build.specs.declared.fault.BuildFault.TheVariants as build
use Rattle.index_build.specs.declared.writing.Built.{Built}
use Rattle.index_build.specs.Build.{AnswersOver, HasRows, IsColumnLook, OpensNumbers, ReadsWords, StopsColumn, StopsIn, TellsDamage, fault_of_part}
use Rattle.index_build.proofs.BuildLemmas.{rows_open}

-- ---- reads

pub mask_looks : (files : Option Files) (dataset : Dataset) (part : PartMeta) (column : Column) (old new : Option (List Look)) → part.number < 4096
    → AddsOnly (IsWholeLook files (mask_file dataset part column)) old new → AddsOnly (IsColumnLook dataset.dir column) old new
mask_looks files dataset part column old new few h =
    AddsOnly-weaken (IsWholeLook files (mask_file dataset part column)) (IsColumnLook dataset.dir column) old new
    (λ look w. record { number = part.number; few = few; file = inr (inl w.of_it) }) h

pub words_looks : (files : Option Files) (dataset : Dataset) (part : PartMeta) (column : Column) (old new : Option (List Look)) → part.number < 4096
    → column.ty ≡ Category → AddsOnly (IsWholeLook files (words_file dataset part column)) old new → AddsOnly (IsColumnLook dataset.dir column) old new
words_looks files dataset part column old new few is h =
    AddsOnly-weaken (IsWholeLook files (words_file dataset part column)) (IsColumnLook dataset.dir column) old new
    (λ look w. record { number = part.number; few = few; file = inr (inr (is, w.of_it)) }) h

-- the files that were opened, and then the values
pub part_looks : (dataset : Dataset) (part : PartMeta) (column : Column) (opened : ColumnRef) (old mid new : Option (List Look))
    → part.number < 4096 → IsOpened dataset part column opened → AddsOnly (IsColumnLook dataset.dir column) old mid
    → AddsOnly (λ look. look.name ≡ opened.name) mid new → AddsOnly (IsColumnLook dataset.dir column) old new
part_looks dataset part column opened old mid new few is h k =
    AddsOnly-trans (IsColumnLook dataset.dir column) old mid new h
    (AddsOnly-weaken (λ look. look.name ≡ opened.name) (IsColumnLook dataset.dir column) mid new
    (λ look e. record { number = part.number; few = few; file = inl (e ∙ is.file) }) k)

-- ---- a dictionary

module _ (dataset : Dataset) (part : PartMeta) (column : Column) where
  pub words_are_read : (files : Option Files) (words : List (List ℕ)) (done : ⊤)
      → IfSome files (λ m. OpensDictionary m dataset part column (Ok words)) → IfSome files (λ m. ReadsWords m dataset part column (Ok done))
  words_are_read None words done h = tt
  words_are_read (Some m) words done h = λ is. (words, h)

  pub words_are_refused : (files : Option Files) (fault : PartFault) → column.ty ≡ Category
      → IfSome files (λ m. OpensDictionary m dataset part column (Err fault))
      → IfSome files (λ m. ReadsWords m dataset part column (Err fault))
  words_are_refused None fault is h = tt
  words_are_refused (Some m) (Damaged file kind want have) is h = (is, h)
  words_are_refused (Some m) Store is h = tt
  words_are_refused (Some m) OutOfMemory is h = tt

  pub no_words : (files : Option Files) (done : ⊤) → (column.ty ≡ Category → ⊥) → IfSome files (λ m. ReadsWords m dataset part column (Ok done))
  no_words None done other = tt
  no_words (Some m) done other = λ is. absurd (other is)

  -- ---- the column and its dictionary

  pub column_is_refused : (files : Option Files) (fault : PartFault) → IfSome files (λ m. OpensColumn m dataset part column (Err fault))
      → IfSome files (λ m. OpensNumbers m dataset part column (Err fault))
  column_is_refused None fault h = tt
  column_is_refused (Some m) (Damaged file kind want have) h = NoColumn h.0 h.1 h.2
  column_is_refused (Some m) Store h = tt
  column_is_refused (Some m) OutOfMemory h = tt

  pub dictionary_is_refused : (files mid : Option Files) (opened : ColumnRef) (fault : PartFault) → mid ≡ files
      → IfSome files (λ m. OpensColumn m dataset part column (Ok opened))
      → IfSome mid (λ m. ReadsWords m dataset part column (Err fault))
      → IfSome files (λ m. OpensNumbers m dataset part column (Err fault))
  dictionary_is_refused files mid opened fault same h k =
      by files fault h (subst (λ (o : Option Files). IfSome o (λ m. ReadsWords m dataset part column (Err fault))) same k)
    where
      by : (files : Option Files) (fault : PartFault) → IfSome files (λ m. OpensColumn m dataset part column (Ok opened))
          → IfSome files (λ m. ReadsWords m dataset part column (Err fault))
          → IfSome files (λ m. OpensNumbers m dataset part column (Err fault))
      by None fault h k = tt
      by (Some m) (Damaged file kind want have) h k = NoDictionary opened.mask k.1.0 h k.0 k.1.1 k.1.2
      by (Some m) Store h k = tt
      by (Some m) OutOfMemory h k = tt

  pub both_open : (files mid : Option Files) (opened : ColumnRef) (done : ⊤) → mid ≡ files
      → IfSome files (λ m. OpensColumn m dataset part column (Ok opened)) → IfSome mid (λ m. ReadsWords m dataset part column (Ok done))
      → IfSome files (λ m. OpensNumbers m dataset part column (Ok opened))
  both_open files mid opened done same h k =
      by files h (subst (λ (o : Option Files). IfSome o (λ m. ReadsWords m dataset part column (Ok done))) same k)
    where
      by : (files : Option Files) → IfSome files (λ m. OpensColumn m dataset part column (Ok opened))
          → IfSome files (λ m. ReadsWords m dataset part column (Ok done)) → IfSome files (λ m. OpensNumbers m dataset part column (Ok opened))
      by None h k = tt
      by (Some m) h k = (h, k)

-- ---- files that are told

told : (files : Option Files) (m : Files) (P : Files → Type 0) → files ≡ Some m → IfSome files P → P m
told files m P is h = subst (λ (o : Option Files). IfSome o P) is h

-- files with rows have no damage
no_damage : (m : Files) (dataset : Dataset) (part : PartMeta) (column : Column) (mask : List Bool) (numbers : List ℤ) (found : Damage) → part.rows ≤ 4194304
    → HasRows m dataset.dir part column mask numbers → IsDamagedAt m dataset.dir part column found → ⊥
no_damage m dataset part column mask numbers found few has (NoColumn fault wrong is) =
    let bad : Ok mask ≡ Err fault = sym (rows_open m dataset part column mask numbers few has) ∙ wrong in absurd (cc)
no_damage m dataset part column mask numbers found few has (NoDictionary bits fault opens category wrong is) =
    let words = has.words category in
    let bad : Ok words.0 ≡ Err fault = sym (words_read m dataset.dir part column words.0 words.1) ∙ wrong in absurd (cc)

pub unopened_answers : (files : Option Files) (m : Files) (dataset : Dataset) (part : PartMeta) (column : Column) (mask : List Bool) (numbers : List ℤ)
    (encoding : EncodingSpec) (n : ℕ) (fault : PartFault) → part.rows ≤ 4194304 → files ≡ Some m
    → IfSome files (λ told. OpensNumbers told dataset part column (Err fault)) → HasRows m dataset.dir part column mask numbers
    → AnswersOver encoding n (Err (fault_of_part fault))
unopened_answers files m dataset part column mask numbers encoding n (Damaged file kind want have) few is h has =
    absurd (no_damage m dataset part column mask numbers (record { file = file; kind = kind; want = want; have = have }) few has
    (told files m (λ told. OpensNumbers told dataset part column (Err (Damaged file kind want have))) is h))
unopened_answers files m dataset part column mask numbers encoding n Store few is h has = tt
unopened_answers files m dataset part column mask numbers encoding n OutOfMemory few is h has = tt

pub opened_mask : (files : Option Files) (m : Files) (dataset : Dataset) (part : PartMeta) (column : Column) (mask : List Bool) (numbers : List ℤ)
    (opened : ColumnRef) → part.rows ≤ 4194304 → files ≡ Some m → IfSome files (λ told. OpensNumbers told dataset part column (Ok opened))
    → HasRows m dataset.dir part column mask numbers → opened.mask ≡ mask
opened_mask files m dataset part column mask numbers opened few is h has =
    let found : column_at m dataset part column ≡ Ok opened.mask = (told files m (λ told. OpensNumbers told dataset part column (Ok opened)) is h).0 in
    let both : Ok opened.mask ≡ Ok mask = sym found ∙ rows_open m dataset part column mask numbers few has in
    cc

-- ---- damaged files

pub damage_told : (files : Option Files) (m : Files) (dataset : Dataset) (part : PartMeta) (column : Column) (damage : Damage) (fault : PartFault)
    → files ≡ Some m → IfSome files (λ told. OpensNumbers told dataset part column (Err fault)) → IsDamagedAt m dataset.dir part column damage
    → TellsDamage damage (Err (fault_of_part fault))
damage_told files m dataset part column damage (Damaged file kind want have) is h d =
    same_damage m dataset.dir part column damage (record { file = file; kind = kind; want = want; have = have }) d
    (told files m (λ told. OpensNumbers told dataset part column (Err (Damaged file kind want have))) is h)
damage_told files m dataset part column damage Store is h d = tt
damage_told files m dataset part column damage OutOfMemory is h d = tt

-- what opens has none
opened_sound : (m : Files) (dataset : Dataset) (part : PartMeta) (column : Column) (damage : Damage) (opened : ColumnRef)
    → OpensNumbers m dataset part column (Ok opened) → IsDamagedAt m dataset.dir part column damage → ⊥
opened_sound m dataset part column damage opened h (NoColumn fault wrong is) = let bad : Ok opened.mask ≡ Err fault = sym h.0 ∙ wrong in absurd (cc)
opened_sound m dataset part column damage opened h (NoDictionary bits fault opens category wrong is) =
    let words = h.1 category in let bad : Ok words.0 ≡ Err fault = sym words.1 ∙ wrong in absurd (cc)

pub undamaged : (files : Option Files) (m : Files) (dataset : Dataset) (part : PartMeta) (column : Column) (damage : Damage) (opened : ColumnRef)
    (r : Result Built BuildFault) → files ≡ Some m → IfSome files (λ told. OpensNumbers told dataset part column (Ok opened))
    → IsDamagedAt m dataset.dir part column damage → TellsDamage damage r
undamaged files m dataset part column damage opened r is h d =
    absurd (opened_sound m dataset part column damage opened (told files m (λ told. OpensNumbers told dataset part column (Ok opened)) is h) d)

-- a damage of a part's column is one of the dataset
pub stops_unopened : (files : Option Files) (dataset : Dataset) (part : PartMeta) (column : Column) (place col : ℕ) (fault : PartFault)
    → slice_get dataset.parts place ≡ Some part → slice_get dataset.schema col ≡ Some column → IsSome (width_of column.ty)
    → IfSome files (λ m. OpensNumbers m dataset part column (Err fault)) → StopsIn files dataset column.name (fault_of_part fault)
stops_unopened None dataset part column place col (Damaged file kind want have) listed at some h = tt
stops_unopened (Some m) dataset part column place col (Damaged file kind want have) listed at some h = record {
  part = part;
  place = place;
  listed = listed;
  column = column;
  col = col;
  in_schema = at;
  named = refl;
  width = some;
  first = h;
}
stops_unopened files dataset part column place col Store listed at some h = tt
stops_unopened files dataset part column place col OutOfMemory listed at some h = tt

-- ---- a column that opens

right_length_by : (width rows : ℕ) (mask : Option (List ℕ)) (bits : List Bool) (values : List ℕ) (t : Bool) → eqb (length values) (rows * width) ≡ t
    → column_in width rows (Some values) mask ≡ Ok bits → length values ≡ rows * width
right_length_by width rows mask bits values true e h = eqb-true (length values) (rows * width) e
right_length_by width rows mask bits values false e h = let bad : Err (column_.WrongLength (rows * width) (length values)) ≡ Ok bits = rw e at h in cc

-- its values file has the length of its rows
right_length : (width rows : ℕ) (values mask : Option (List ℕ)) (bits : List Bool) → column_in width rows values mask ≡ Ok bits
    → (bytes : List ℕ) × (values ≡ Some bytes) × (length bytes ≡ rows * width)
right_length width rows None mask bits h = absurd (cc)
right_length width rows (Some bytes) mask bits h = (bytes, refl, right_length_by width rows mask bits bytes (eqb (length bytes) (rows * width)) refl h)

-- so it doesn't turn out to be too short
not_short : (m : Files) (dataset : Dataset) (part : PartMeta) (column : Column) (opened : ColumnRef) → IsOpened dataset part column opened
    → column_at m dataset part column ≡ Ok opened.mask
    → ((bytes : List ℕ) → file_at m opened.name ≡ Some bytes → length bytes ≢ opened.rows * width_in opened.ty) → ⊥
not_short m dataset part column opened is opens other =
    let right = right_length (width_in column.ty) part.rows (file_at m (values_file dataset part column)) (file_at m (mask_file dataset part column)) opened.mask opens in
    let size : length right.0 ≡ opened.rows * width_in opened.ty =
    right.2 ∙ ap (λ (n : ℕ). n * width_in column.ty) (sym is.rows) ∙ ap (λ (ty : ColType). opened.rows * width_in ty) (sym is.typed) in
    other right.0 (ap (file_at m) is.file ∙ right.1) size

pub stops_opened : (files mid : Option Files) (dataset : Dataset) (part : PartMeta) (column : Column) (opened : ColumnRef) (spec : Spec)
    (r : Result Built BuildFault) → mid ≡ files → IsOpened dataset part column opened
    → IfSome files (λ m. OpensNumbers m dataset part column (Ok opened)) → IfErr r (StopsColumn mid opened spec) → IfErr r (StopsIn files dataset column.name)
stops_opened files mid dataset part column opened spec r same is opens h =
    by files r opens (subst (λ (o : Option Files). IfErr r (StopsColumn o opened spec)) same h)
  where
    by : (files : Option Files) (r : Result Built BuildFault) → IfSome files (λ m. OpensNumbers m dataset part column (Ok opened))
        → IfErr r (StopsColumn files opened spec) → IfErr r (StopsIn files dataset column.name)
    by files (Ok built) opens h = tt
    by None (Err (build.Damaged file kind want have)) opens h = tt
    by (Some m) (Err (build.Damaged file kind want have)) opens h = absurd (not_short m dataset part column opened is opens.0 h.2)
    by files (Err (build.TooManyBins bins limit)) opens h = (h.0, h.1)
    by files (Err build.Store) opens h = tt
    by files (Err build.OutOfMemory) opens h = tt
