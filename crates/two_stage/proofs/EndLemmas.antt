-- The ends of the bins of a column are numbers that it has.
use Rattle.std.proofs.Common.{◌≡◌, ℕ, zero, suc, ◌≤◌, ◌<◌, Bool, true, false, ◌||◌, cond, List, [], ◌∷◌, All, length, map, get_or, Option, Some, None, unwrap_or, ℤ, pos, ◌≤ℤ◌, FitsSigned, refl, sym, ap, subst, ◌∙◌, arith, rules}
use Rattle.std.specs.Int.{w128}
use Rattle.std.specs.List.{AllByRecursion, filter, list_any}
use Rattle.std.specs.Ordering.{int_eq}
use Rattle.std.proofs.lemmas.Int.{ints}
use Rattle.std.proofs.lemmas.List.Elements.{All-from_recursion, All-head, All-tail}
use Rattle.fb_types.specs.declared.cells.Cell.{Cell}
use Rattle.fb_types.specs.declared.cells.Cell.TheVariants.{Null, Whole, Word}
use Rattle.fb_types.specs.declared.types.ColType.{ColType}
use Rattle.fb_types.specs.declared.types.ColType.TheVariants.{Byte, UByte, Short, UShort, Int, UInt, Long, ULong, Category, Text}
use Rattle.fb_types.specs.Cells.{CellFits}
use Rattle.column_file.specs.Values.{ValueFits}
use Rattle.index_file.specs.IndexFile.{EdgeFits}
use Rattle.index_spec.specs.Language.{IsGiven}
use Rattle.index_spec.specs.declared.spec.Spec.{Spec}
use Rattle.binning.specs.Bins.{bin_of, bins_of, cells, present, values_with}
use Rattle.binning.specs.Gathered.{is_in}
use Rattle.binning.specs.Keys.{IsKeying, key, rising}
use Rattle.binning.specs.Order.{BinsRise}
use Rattle.binning.specs.declared.gathering.Bin.{Bin}
use Rattle.binning.specs.declared.rules.Keying.{Keying}
use Rattle.binning.proofs.BinOrderLemmas.{bins_rise, ends_there}
use Rattle.binning.proofs.KeyLemmas.{eq_from, eq_self, is_in-rising, kept_of, or_left, or_right}
use Rattle.binning.proofs.TestLemmas.{either}
use Rattle.world.specs.Cells.{code_of, dictionary_of, is_present, stored_numbers}
use Rattle.world.specs.IndexFiles.{bins_by, column_bins, edge_of, keys_by}
use Rattle.part_meaning.specs.Columns.{bins_under, ends_in, one_bin}
use Rattle.part_meaning.proofs.CodeLemmas.{IsCoded, code_within, row_coded}

-- ---- what is true of the numbers of a column is true of the ends of its bins

all_later : (v w : ℤ) (vs : List ℤ) → is_in v vs ≡ true → is_in v (w ∷ vs) ≡ true
all_later v w vs h = either (int_eq v w) (λ t. or_left (int_eq v w) (is_in v vs) t) (λ f. or_right (int_eq v w) (is_in v vs) f ∙ h)

of_each : (P : ℤ → Type 0) (vs : List ℤ) (v : ℤ) → AllByRecursion P vs → is_in v vs ≡ true → P v
of_each P [] v h e = absurd cc
of_each P (w ∷ vs) v h e =
    either (int_eq v w) (λ t. subst P (sym (eq_from v w t)) h.0)
    (λ f. of_each P vs v h.1 (sym (or_right (int_eq v w) (is_in v vs) f) ∙ e))

of_kept : (P : ℤ → Type 0) (test : ℤ → Bool) (vs : List ℤ) → AllByRecursion P vs → AllByRecursion P (filter test vs)
of_kept P test [] h = tt
of_kept P test (v ∷ vs) h = by (test v) (of_kept P test vs h.1)
  where
    by : (b : Bool) → AllByRecursion P (filter test vs) → AllByRecursion P (cond b (v ∷ filter test vs) (filter test vs))
    by true k = (h.0, k)
    by false k = k

of_keys : (P : ℤ → Type 0) (keys : Keying) (column : List (Option ℤ)) (ks : List ℤ) → AllByRecursion P (present column)
    → ((k : ℤ) → is_in k ks ≡ true → is_in k (map (key keys) (present column)) ≡ true)
    → AllByRecursion (λ bin. P bin.least × P bin.greatest) (map (bin_of keys column) ks)
of_keys P keys column [] h among = tt
of_keys P keys column (k ∷ ks) h among =
    let ends = ends_there keys column k (among k (or_left (int_eq k k) (is_in k ks) (eq_self k))) in
    let kept = of_kept P (λ v. int_eq (key keys v) k) (present column) h in
    let bin = bin_of keys column k in (
      (of_each P (values_with keys k column) bin.least kept ends.0, of_each P (values_with keys k column) bin.greatest kept ends.1),
      of_keys P keys column ks h (λ q i. among q (all_later q k ks i)),
    )

pub ends_have : (P : ℤ → Type 0) (keys : Keying) (column : List (Option ℤ)) → AllByRecursion P (present column)
    → AllByRecursion (λ bin. P bin.least × P bin.greatest) (bins_of keys column)
ends_have P keys column h =
    let found = map (key keys) (present column) in
    of_keys P keys column (rising found) h (λ k i. sym (is_in-rising k found) ∙ i)

-- each bin's least is at most its greatest
in_order : (bins : List Bin) → BinsRise bins → AllByRecursion (λ bin. bin.least ≤ℤ bin.greatest) bins
in_order [] h = tt
in_order (b ∷ []) h = (h, tt)
in_order (b ∷ c ∷ bins) h = (h.0, in_order (c ∷ bins) h.2)

-- ---- numbers where the mask is true

pub present_have : (P : ℤ → Type 0) (mask : List Bool) (vs : List ℤ) → AllByRecursion P vs → AllByRecursion P (present (cells mask vs))
present_have P [] vs h = tt
present_have P (true ∷ mask) [] h = tt
present_have P (false ∷ mask) [] h = tt
present_have P (true ∷ mask) (v ∷ vs) h = (h.0, present_have P mask vs h.1)
present_have P (false ∷ mask) (v ∷ vs) h = present_have P mask vs h.1

-- ---- the ends are numbers of 128 bits

value_fits : (ty : ColType) (v : ℤ) → ValueFits v ty → FitsSigned w128 v
value_fits Byte v h = search rules
value_fits UByte v h = search rules
value_fits Short v h = search rules
value_fits UShort v h = search rules
value_fits Int v h = search rules
value_fits UInt v h = search rules
value_fits Long v h = search rules
value_fits ULong v h = search rules
value_fits Category v h = search rules
value_fits Text v h = search rules

all_fit : (ty : ColType) (vs : List ℤ) → All (λ v. ValueFits v ty) vs → AllByRecursion (λ v. FitsSigned w128 v) vs
all_fit ty [] h = tt
all_fit ty (v ∷ vs) h = (value_fits ty v (All-head (λ v. ValueFits v ty) v vs h), all_fit ty vs (All-tail (λ v. ValueFits v ty) v vs h))

edges_of : (bins : List Bin) → AllByRecursion (λ bin. FitsSigned w128 bin.least × FitsSigned w128 bin.greatest) bins → AllByRecursion EdgeFits (map edge_of bins)
edges_of [] h = tt
edges_of (b ∷ bins) h = (h.0, edges_of bins h.1)

pub edges_fit : (ty : ColType) (keys : Keying) (mask : List Bool) (vs : List ℤ) → All (λ v. ValueFits v ty) vs
    → AllByRecursion EdgeFits (map edge_of (bins_of keys (cells mask vs)))
edges_fit ty keys mask vs h =
    edges_of (bins_of keys (cells mask vs))
    (ends_have (λ v. FitsSigned w128 v) keys (cells mask vs) (present_have (λ v. FitsSigned w128 v) mask vs (all_fit ty vs h)))

-- ---- those of a category are codes

abbrev IsCode : List (List ℕ) → ℤ → Type 0
IsCode words v = (pos 1 ≤ℤ v) × (v ≤ℤ pos (length words))

-- each word of these cells has a code
abbrev AreCoded : List (List ℕ) → List Cell → Type 0
AreCoded words column = (row : ℕ) (word : List ℕ) → get_or column row Null ≡ Word word → IsCoded words word

word_code : (words : List (List ℕ)) (word : List ℕ) → IsCoded words word → IsCode words (code_of words (Word word))
word_code words word coded =
    let within = code_within words word coded.code coded.is in
    let same : code_of words (Word word) ≡ pos coded.code = ap (λ o. pos (unwrap_or o 0)) coded.is in
    subst (IsCode words) (sym same) (omega (arith, ints, within.0), omega (arith, ints, within.1))

codes_there : (words : List (List ℕ)) (column : List Cell) → All (λ cell. CellFits cell Category) column → AreCoded words column
    → AllByRecursion (IsCode words) (present (cells (map is_present column) (map (code_of words) column)))
codes_there words [] fit coded = tt
codes_there words (Null ∷ column) fit coded =
    codes_there words column (All-tail (λ cell. CellFits cell Category) Null column fit) (λ row word e. coded (suc row) word e)
codes_there words (Whole n ∷ column) fit coded = absurd (All-head (λ cell. CellFits cell Category) (Whole n) column fit)
codes_there words (Word word ∷ column) fit coded = (
  word_code words word (coded zero word refl),
  codes_there words column (All-tail (λ cell. CellFits cell Category) (Word word) column fit) (λ row other e. coded (suc row) other e),
)

-- where a row has a value there is a word
some_word : (words : List (List ℕ)) (column : List Cell) → All (λ cell. CellFits cell Category) column → AreCoded words column
    → list_any (λ b. b) (map is_present column) ≡ true → pos 1 ≤ℤ pos (length words)
some_word words [] fit coded h = absurd cc
some_word words (Null ∷ column) fit coded h =
    some_word words column (All-tail (λ cell. CellFits cell Category) Null column fit) (λ row word e. coded (suc row) word e) h
some_word words (Whole n ∷ column) fit coded h = absurd (All-head (λ cell. CellFits cell Category) (Whole n) column fit)
some_word words (Word word ∷ column) fit coded h =
    let has = coded zero word refl in
    let within = code_within words word has.code has.is in
    omega (arith, ints, within.0, within.1)

abbrev AreCodeEnds : List (List ℕ) → Bin → Type 0
AreCodeEnds words bin = (pos 1 ≤ℤ bin.least) × (bin.least ≤ℤ bin.greatest) × (bin.greatest ≤ℤ pos (length words))

both_ends : (words : List (List ℕ)) (bins : List Bin) → AllByRecursion (λ bin. IsCode words bin.least × IsCode words bin.greatest) bins
    → AllByRecursion (λ bin. bin.least ≤ℤ bin.greatest) bins → AllByRecursion (AreCodeEnds words) bins
both_ends words [] h k = tt
both_ends words (b ∷ bins) h k = ((h.0.0.0, k.0, h.0.1.1), both_ends words bins h.1 k.1)

keyed_codes : (words : List (List ℕ)) (keys : Keying) (column : List Cell) → IsKeying keys → All (λ cell. CellFits cell Category) column → AreCoded words column
    → AllByRecursion (AreCodeEnds words) (bins_of keys (cells (map is_present column) (map (code_of words) column)))
keyed_codes words keys column is fit coded =
    let all = cells (map is_present column) (map (code_of words) column) in
    both_ends words (bins_of keys all) (ends_have (IsCode words) keys all (codes_there words column fit coded))
    (in_order (bins_of keys all) (bins_rise keys all is))

one_code : (words : List (List ℕ)) (column : List Cell) (b : Bool) → list_any (λ b. b) (map is_present column) ≡ b
    → All (λ cell. CellFits cell Category) column → AreCoded words column
    → AllByRecursion (AreCodeEnds words) (cond b (record { least = pos 1; greatest = pos (length words); rows = map is_present column } ∷ []) [])
one_code words column true e fit coded = ((omega (arith, ints), some_word words column fit coded e, omega (arith, ints)), tt)
one_code words column false e fit coded = tt

pub code_ends : (spec : Option Spec) (column : List Cell) → ((s : Spec) → spec ≡ Some s → IsGiven s) → All (λ cell. CellFits cell Category) column
    → All (AreCodeEnds (dictionary_of column)) (bins_under spec Category column)
unfolding one_bin ends_in
code_ends None column given fit =
    let words = dictionary_of column in
    All-from_recursion (AreCodeEnds words) (bins_under None Category column)
    (one_code words column (list_any (λ b. b) (map is_present column)) refl fit (λ row word e. row_coded column row word e))
code_ends (Some spec) column given fit =
    let words = dictionary_of column in
    let mask = map is_present column in
    let numbers = map (code_of words) column in
    let keys = keys_by spec mask numbers in
    All-from_recursion (AreCodeEnds words) (bins_of keys (cells mask numbers))
    (keyed_codes words keys column (kept_of spec.binning (present (cells mask numbers)) (given spec refl).0) fit (λ row word e. row_coded column row word e))
