-- What is known of conditions is so, and so the bounds enclose the number of records that a plan holds of.
use Rattle.std.proofs.Common.{◌≡◌, ℕ, suc, ◌+◌, ◌≤◌, ◌≤ℤ◌, Bool, true, false, cond, List, [], ◌∷◌, All, count_by, length, get_or, map, MatchOption, Option, Some, None, unwrap_or, option_map, ℤ, pos, refl, sym, ap, subst, ◌∙◌, arith}
use Rattle.std.specs.Prelude.{is_none, is_some}
use Rattle.std.specs.List.{AllByRecursion, range_with_len, slice_get}
use Rattle.std.proofs.lemmas.List.Elements.{All-cons, All-head, All-nil, All-tail}
use Rattle.std.proofs.lemmas.List.Sums.{sum_by-cons}
use Rattle.std.proofs.lemmas.Option.{unwrap_or-slice_get}
use Rattle.fb_types.specs.declared.cells.Cell.{Cell}
use Rattle.fb_types.specs.declared.cells.Cell.TheVariants.{Null, Whole, Word}
use Rattle.fb_types.specs.declared.schemas.Column.{Column}
use Rattle.fb_types.specs.declared.types.ColType.{ColType}
use Rattle.fb_types.specs.Cells.{CellFits, RecordFits}
use Rattle.fb_types.specs.Types.{ends_of, width_of}
use Rattle.binning.specs.Against.{against}
use Rattle.binning.specs.Spans.{has}
use Rattle.binning.specs.declared.against_bins.Three.{Three}
use Rattle.binning.specs.declared.against_bins.Three.TheVariants.{No}
use Rattle.binning.specs.declared.gathering.Bin.{Bin}
use Rattle.binning.specs.declared.span_lists.Span.{Span}
use Rattle.wah_logic.specs.Logic.{ones}
use Rattle.text_column.specs.Words.{code_in}
use Rattle.text_column.proofs.DictionaryLemmas.{word_of_code}
use Rattle.where_grammar.specs.declared.clause.Atom.{Atom}
use Rattle.where_grammar.specs.declared.clause.Atom.TheVariants as clause
use Rattle.where_grammar.specs.declared.clause.Clause.{Clause}
use Rattle.where_grammar.specs.Holds.{is_met, is_there, number_passes}
use Rattle.where_plan.specs.Plans.{FitsColumn, FitsSchema, IsPlan, place_in}
use Rattle.where_plan.specs.PlanHolds.{is_asked_for, plan_atom_holds, plan_holds}
use Rattle.where_plan.specs.SpansOf.{code_meets, some_passes}
use Rattle.where_plan.specs.declared.plan.Plan.{Plan}
use Rattle.where_plan.specs.declared.plan.PlanAtom.{PlanAtom}
use Rattle.where_plan.specs.declared.plan.PlanAtom.TheVariants as atom
use Rattle.where_plan.proofs.PlanLemmas.{whole_truth}
use Rattle.three_valued.specs.Candidates.{true_rows}
use Rattle.three_valued.specs.Plans.{AreSound, atoms_of, is_true, IsSound}
use Rattle.three_valued.specs.Tables.{decided, undecided}
use Rattle.three_valued.proofs.PlanLemmas.{record_truth}
use Rattle.three_valued.proofs.SoundLemmas.{definite_le, possible_ge}
use Rattle.world.specs.Cells.{dictionary_of, is_present}
use Rattle.world.specs.World.{IsPartition, Partition}
use Rattle.bin_answers.specs.Bins.{bin_at, said_by}
use Rattle.part_meaning.specs.Columns.{PartColumn, bins_in, cell_of_row, column_at, no_column}
use Rattle.part_meaning.specs.Known.{bin_says, known, of_codes}
use Rattle.part_meaning.specs.Parts.{column_for, known_in, record_of}
use Rattle.part_meaning.specs.Answers.{definite_in, possible_in, rows_that_hold}
use Rattle.part_meaning.proofs.RangeLemmas.{against_sound, over_sound}
use Rattle.part_meaning.proofs.BinLemmas.{HasRow}
use Rattle.part_meaning.proofs.CodeLemmas.{row_coded}
use Rattle.part_meaning.proofs.ColumnLemmas.{cell_is, is_column, IsColumn, no_row, number_by, row_has}

-- ---- conditions on one cell

null_met : (condition : Atom) → is_met condition Null ≡ false
null_met (clause.Compare name by value) = refl
null_met (clause.Double name left low right high) = refl
null_met (clause.Between name low high) = refl
null_met (clause.Numbers name list) = refl
null_met (clause.Same name text) = refl
null_met (clause.Other name text) = refl
null_met (clause.Texts name list) = refl
null_met (clause.Like name pattern) = refl
null_met (clause.Exists name) = refl

there_present : (cell : Cell) (b : Bool) → is_there cell ≡ b → is_present cell ≡ b
there_present Null b h = h
there_present (Whole n) b h = h
there_present (Word word) b h = h

-- ---- what a bin says of its rows

module _ (column : PartColumn) (row : ℕ) (is : IsColumn column) where
  absent_no : (says : Bin → Three) → is_present (cell_of_row column row) ≡ false → said_by says (bin_at row (bins_in column)) ≡ No
  absent_no says absent = ap (said_by says) (no_row column row is absent)

  by_bin : (says : Bin → Three) (b : Bool) → (r : HasRow (bins_in column) row (number_by (ends_of column.ty) (dictionary_of column.cells) (cell_of_row column row)))
      → IsSound (says r.bin) b → IsSound (said_by says (bin_at row (bins_in column))) b
  by_bin says b r h = subst (λ o. IsSound (said_by says o) b) (sym r.at) h

  pub whole_sound : (col : ℕ) (spans : List Span) → is_some (ends_of column.ty) ≡ true
      → IsSound (known column (atom.Whole col spans) row) (number_passes (has spans) (cell_of_row column row))
  unfolding known bin_says number_by
  whole_sound col spans number = by (cell_of_row column row) refl (is.fits row)
    where
      says : Bin → Three
      says bin = against bin.least bin.greatest spans

      same : (o : Option (ℤ × ℤ)) (n : ℤ) → is_some o ≡ true → number_by o (dictionary_of column.cells) (Whole n) ≡ n
      same None n h = absurd cc
      same (Some ends) n h = refl

      no_word : (o : Option (ℤ × ℤ)) (P : Type 0) → is_some o ≡ true → MatchOption o P (λ _. ⊥) → ⊥
      no_word None P h fit = absurd cc
      no_word (Some ends) P h fit = fit

      by : (cell : Cell) → cell_of_row column row ≡ cell → CellFits cell column.ty
          → IsSound (said_by (λ bin. against bin.least bin.greatest spans) (bin_at row (bins_in column))) (number_passes (has spans) cell)
      by Null e fit = subst (λ x. IsSound x false) (sym (absent_no says (ap is_present e))) refl
      by (Whole n) e fit =
          let r = row_has column row is (ap is_present e) in
          let at : number_by (ends_of column.ty) (dictionary_of column.cells) (cell_of_row column row) ≡ n
          = ap (number_by (ends_of column.ty) (dictionary_of column.cells)) e ∙ same (ends_of column.ty) n number in
          by_bin says (has spans n) r
          (against_sound spans r.bin.least r.bin.greatest n (subst (λ x. r.bin.least ≤ℤ x) at r.low) (subst (λ x. x ≤ℤ r.bin.greatest) at r.high))
      by (Word word) e fit = absurd (no_word (ends_of column.ty) ((1 ≤ length word) × (length word ≤ 65535)) number fit)

  pub word_sound : (col : ℕ) (condition : Atom) → is_none (ends_of column.ty) ≡ true
      → IsSound (known column (atom.Word col condition) row) (is_met condition (cell_of_row column row))
  unfolding known bin_says number_by
  word_sound col condition texts = by (cell_of_row column row) refl (is.fits row)
    where
      test : ℤ → Bool
      test = code_meets condition (dictionary_of column.cells)

      says : Bin → Three
      says = of_codes (width_of column.ty) (code_meets condition (dictionary_of column.cells))

      no_number : (o : Option (ℤ × ℤ)) (P : ℤ × ℤ → Type 0) → is_none o ≡ true → MatchOption o ⊥ P → ⊥
      no_number None P h fit = fit
      no_number (Some ends) P h fit = absurd cc

      coded : (o : Option (ℤ × ℤ)) (word : List ℕ) (code : ℕ) → is_none o ≡ true → code_in (dictionary_of column.cells) word ≡ Some code
          → number_by o (dictionary_of column.cells) (Word word) ≡ pos code
      coded None word code h e = ap (λ c. pos (unwrap_or c 0)) e
      coded (Some ends) word code h e = absurd cc

      of_code : (o : Option ℕ) (bin : Bin) (n : ℤ) → bin.least ≤ℤ n → n ≤ℤ bin.greatest → IsSound (of_codes o test bin) (test n)
      of_code None bin n low high = tt
      of_code (Some width) bin n low high = over_sound test bin.least bin.greatest n low high

      by : (cell : Cell) → cell_of_row column row ≡ cell → CellFits cell column.ty
          → IsSound (said_by (of_codes (width_of column.ty) (code_meets condition (dictionary_of column.cells))) (bin_at row (bins_in column))) (is_met condition cell)
      by Null e fit = subst (λ x. IsSound x (is_met condition Null)) (sym (absent_no says (ap is_present e))) (null_met condition)
      by (Whole n) e fit = absurd (no_number (ends_of column.ty) (λ ends. (ends.0 ≤ℤ n) × (n ≤ℤ ends.1)) texts fit)
      by (Word word) e fit =
          let r = row_has column row is (ap is_present e) in
          let c = row_coded column.cells row word e in
          let at : number_by (ends_of column.ty) (dictionary_of column.cells) (cell_of_row column row) ≡ pos c.code
          = ap (number_by (ends_of column.ty) (dictionary_of column.cells)) e ∙ coded (ends_of column.ty) word c.code texts c.is in
          let met : test (pos c.code) ≡ is_met condition (Word word)
          = ap (some_passes (λ w. is_met condition (Word w))) (word_of_code (dictionary_of column.cells) word c.code c.is) in
          by_bin says (is_met condition (Word word)) r
          (subst (IsSound (says r.bin)) met
          (of_code (width_of column.ty) r.bin (pos c.code) (subst (λ x. r.bin.least ≤ℤ x) at r.low) (subst (λ x. x ≤ℤ r.bin.greatest) at r.high)))

  pub exists_sound : (col : ℕ) → IsSound (known column (atom.Exists col) row) (is_there (cell_of_row column row))
  unfolding known
  exists_sound col = by (is_there (cell_of_row column row))
    where
      by : (b : Bool) → IsSound (decided b) b
      by true = refl
      by false = refl

  -- of a text nothing is known but that it is there
  pub text_unknown : (col : ℕ) (condition : Atom) → width_of column.ty ≡ None
      → known column (atom.Word col condition) row ≡ undecided (is_there (cell_of_row column row))
  unfolding known bin_says
  text_unknown col condition none = by (is_there (cell_of_row column row)) refl
    where
      test : ℤ → Bool
      test = code_meets condition (dictionary_of column.cells)

      by : (b : Bool) → is_there (cell_of_row column row) ≡ b
          → said_by (of_codes (width_of column.ty) (code_meets condition (dictionary_of column.cells))) (bin_at row (bins_in column)) ≡ undecided b
      by true h =
          let r = row_has column row is (there_present (cell_of_row column row) true h) in
          ap (said_by (of_codes (width_of column.ty) test)) r.at ∙ ap (λ o. of_codes o test r.bin) none
      by false h = absent_no (of_codes (width_of column.ty) test) (there_present (cell_of_row column row) false h)

  pub null_no : (condition : PlanAtom) → is_there (cell_of_row column row) ≡ false → known column condition row ≡ No
  unfolding known
  null_no (atom.Whole col spans) absent =
      absent_no (bin_says column (atom.Whole col spans)) (there_present (cell_of_row column row) false absent)
  null_no (atom.Word col condition) absent =
      absent_no (bin_says column (atom.Word col condition)) (there_present (cell_of_row column row) false absent)
  null_no (atom.Exists col) absent = ap decided absent

-- ---- conditions that fit a schema

type_at : (schema : List Column) (col : ℕ) (ty : ColType) → option_map (λ (column : Column). column.ty) (slice_get schema col) ≡ Some ty
    → (get_or schema col no_column).ty ≡ ty
type_at schema col ty h = ap (λ (c : Column). c.ty) (sym (unwrap_or-slice_get schema col no_column)) ∙ by (slice_get schema col) h
  where
    by : (o : Option Column) → option_map (λ (column : Column). column.ty) o ≡ Some ty → (unwrap_or o no_column).ty ≡ ty
    by None e = absurd cc
    by (Some column) e = let same : column.ty ≡ ty = cc in same

pub type_for : (schema : List Column) (part : Partition) (condition : PlanAtom) → (fits : FitsColumn schema condition)
    → (column_for schema part condition).ty ≡ fits.ty
unfolding column_at
type_for schema part condition fits = type_at schema (place_in condition) fits.ty fits.there

-- what is known of a condition on a row's record is so
pub record_sound : (schema : List Column) (part : Partition) (row : ℕ) (condition : PlanAtom) → IsPartition schema part → FitsColumn schema condition
    → IsSound (known (column_for schema part condition) condition row) (plan_atom_holds condition (record_of part row))
record_sound schema part row (atom.Whole col spans) valid fits =
    let column = column_at schema part col in
    subst (λ cell. IsSound (known column (atom.Whole col spans) row) (number_passes (has spans) cell)) (cell_is schema part col row)
    (whole_sound column row (is_column schema part col valid) col spans (ap (λ ty. is_some (ends_of ty)) (type_for schema part (atom.Whole col spans) fits) ∙ fits.suited))
record_sound schema part row (atom.Word col condition) valid fits =
    let column = column_at schema part col in
    subst (λ cell. IsSound (known column (atom.Word col condition) row) (is_met condition cell)) (cell_is schema part col row)
    (word_sound column row (is_column schema part col valid) col condition (ap (λ ty. is_none (ends_of ty)) (type_for schema part (atom.Word col condition) fits) ∙ fits.suited))
record_sound schema part row (atom.Exists col) valid fits =
    let column = column_at schema part col in
    subst (λ cell. IsSound (known column (atom.Exists col) row) (is_there cell)) (cell_is schema part col row)
    (exists_sound column row (is_column schema part col valid) col)

pub texts_unknown : (schema : List Column) (part : Partition) (col row : ℕ) (condition : Atom) → IsPartition schema part
    → width_of (column_at schema part col).ty ≡ None
    → known (column_at schema part col) (atom.Word col condition) row ≡ undecided (is_there (cell_of_row (column_at schema part col) row))
texts_unknown schema part col row condition valid none =
    text_unknown (column_at schema part col) row (is_column schema part col valid) col condition none

-- ---- plans

all_sound : (answer : PlanAtom → Three) (truth : PlanAtom → Bool) (P : PlanAtom → Type 0) (atoms : List PlanAtom) → AllByRecursion P atoms
    → ((a : PlanAtom) → P a → IsSound (answer a) (truth a)) → AreSound answer truth atoms
all_sound answer truth P [] all each = All-nil (λ a. IsSound (answer a) (truth a))
all_sound answer truth P (a ∷ atoms) all each =
    All-cons (λ a. IsSound (answer a) (truth a)) a atoms (each a all.0) (all_sound answer truth P atoms all.1 each)

pub plan_sound : (schema : List Column) (part : Partition) (planned : Plan) (row : ℕ) → IsPartition schema part → FitsSchema schema planned
    → AreSound (known_in schema part row) (λ condition. plan_atom_holds condition (record_of part row)) (atoms_of planned)
unfolding atoms_of
plan_sound schema part planned row valid fits =
    all_sound (known_in schema part row) (λ condition. plan_atom_holds condition (record_of part row)) (FitsColumn schema) (atoms_of planned) fits
    (λ condition fit. record_sound schema part row condition valid fit)

-- ---- counts

abbrev one_if : Bool → ℕ
one_if b = cond b 1 0

counted : (p : ℕ → Bool) (g : List Cell → Bool) (a : ℕ) (records : List (List Cell))
    → ((i : ℕ) → p (a + i) ≡ g (get_or records i [])) → count_by p (range_with_len a (length records)) ≡ ones (map g records)
counted p g a [] same = refl
counted p g a (cells ∷ records) same =
    let here : p a ≡ g cells = let zero_more : a + 0 ≡ a = omega arith in ap p (sym zero_more) ∙ same 0 in
    let rest = counted p g (a + 1) records (λ i. let next : a + 1 + i ≡ a + suc i = omega arith in ap p next ∙ same (suc i)) in
    let first = sum_by-cons (λ row. one_if (p row)) a (range_with_len (a + 1) (length records)) in
    let other = sum_by-cons one_if (g cells) (map g records) in
    let one : one_if (p a) ≡ one_if (g cells) = ap one_if here in
    omega (arith, rest, first, other, one)

-- on so many rows the plan is true as it holds of records
rows_counted : (part : Partition) (planned : Plan)
    → true_rows (length part.records) (λ row condition. plan_atom_holds condition (record_of part row)) planned ≡ ones (rows_that_hold planned part)
rows_counted part planned =
    counted (λ row. is_true (λ condition. plan_atom_holds condition (record_of part row)) planned) (plan_holds planned) 0 part.records
    (λ i. let none : 0 + i ≡ i = omega arith in
    ap (λ row. is_true (λ condition. plan_atom_holds condition (record_of part row)) planned) none ∙ record_truth planned (record_of part i))

pub definite_held : (schema : List Column) (part : Partition) (planned : Plan) → IsPartition schema part → FitsSchema schema planned
    → definite_in schema part planned ≤ ones (rows_that_hold planned part)
unfolding definite_in
definite_held schema part planned valid fits =
    let le = definite_le (length part.records) (known_in schema part) (λ row condition. plan_atom_holds condition (record_of part row)) planned
    (λ row below. plan_sound schema part planned row valid fits) in
    omega (arith, le, rows_counted part planned)

pub held_possible : (schema : List Column) (part : Partition) (planned : Plan) → IsPartition schema part → FitsSchema schema planned
    → ones (rows_that_hold planned part) ≤ possible_in schema part planned
unfolding possible_in
held_possible schema part planned valid fits =
    let le = possible_ge (length part.records) (known_in schema part) (λ row condition. plan_atom_holds condition (record_of part row)) planned
    (λ row below. plan_sound schema part planned row valid fits) in
    omega (arith, le, rows_counted part planned)

-- ---- clauses

pub rows_of_clause : (schema : List Column) (asked : Option Clause) (planned : Plan) (records : List (List Cell)) → IsPlan schema asked planned
    → All (λ cells. RecordFits cells schema) records → map (plan_holds planned) records ≡ map (is_asked_for asked schema) records
rows_of_clause schema asked planned [] is fit = refl
rows_of_clause schema asked planned (cells ∷ records) is fit =
    ap (λ b. b ∷ map (plan_holds planned) records)
    (whole_truth schema asked planned cells is (All-head (λ (c : List Cell). RecordFits c schema) cells records fit))
    ∙ ap (λ bs. is_asked_for asked schema cells ∷ bs)
    (rows_of_clause schema asked planned records is (All-tail (λ (c : List Cell). RecordFits c schema) cells records fit))
