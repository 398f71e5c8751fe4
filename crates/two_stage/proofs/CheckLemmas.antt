-- What is found on candidates by their values is on which of them the condition is true.
use Rattle.std.proofs.Common.{◌≡◌, ℕ, zero, suc, ◌+◌, ◌*◌, ◌<◌, ◌≤◌, Bool, true, false, ◌&&◌, List, [], ◌∷◌, length, map, get_or, MatchOption, Option, Some, None, IsSome, unwrap_or, ℤ, pos, ◌≤ℤ◌, refl, sym, ap, subst, ◌∙◌, arith}
use Rattle.std.specs.Prelude.{is_none, is_some}
use Rattle.std.specs.List.{range_with_len}
use Rattle.std.proofs.lemmas.Int.{ints}
use Rattle.std.proofs.lemmas.List.{get_or-map, length-map}
use Rattle.std.proofs.lemmas.List.FromFn.{get_or-map-range_with_len, length-map-range_with_len}
use Rattle.std.proofs.Math.ListN.{get_or-map as get_or-mapped}
use Rattle.fb_types.specs.declared.cells.Cell.{Cell}
use Rattle.fb_types.specs.declared.cells.Cell.TheVariants.{Null, Whole, Word}
use Rattle.fb_types.specs.declared.schemas.Column.{Column}
use Rattle.fb_types.specs.declared.types.ColType.{ColType}
use Rattle.fb_types.specs.Cells.{CellFits}
use Rattle.fb_types.specs.Types.{ends_of, width_of}
use Rattle.binning.specs.Spans.{has, in_span, int_le}
use Rattle.binning.specs.declared.against_bins.Three.TheVariants.{No, Unknown}
use Rattle.binning.specs.declared.span_lists.Span.{Span}
use Rattle.binning.proofs.TestLemmas.{int_le-true}
use Rattle.text_column.proofs.DictionaryLemmas.{word_of_code}
use Rattle.three_valued.specs.Tables.{decided}
use Rattle.part_meaning.specs.Known.{known}
use Rattle.wah_logic.specs.Logic.{and, each_place, groups_and_rest}
use Rattle.wah_logic.proofs.UnionLemmas.{words_few}
use Rattle.wah_words.specs.Spelling.{words_of}
use Rattle.where_grammar.specs.declared.clause.Atom.{Atom}
use Rattle.where_grammar.specs.Holds.{is_met, is_there, number_passes}
use Rattle.where_plan.specs.Plans.{FitsColumn, place_in}
use Rattle.where_plan.specs.PlanHolds.{cell_at, plan_atom_holds}
use Rattle.where_plan.specs.SpansOf.{code_meets, code_range, some_passes}
use Rattle.where_plan.specs.declared.plan.PlanAtom.{PlanAtom}
use Rattle.where_plan.specs.declared.plan.PlanAtom.TheVariants as atom
use Rattle.candidates.specs.Texts.{meets}
use Rattle.stages.specs.Answer.{AreUnknown, met_of}
use Rattle.world.specs.Cells.{code_of, dictionary_of, number_of, stored_numbers, texts_of, word_of}
use Rattle.world.specs.World.{IsPartition, Partition}
use Rattle.part_meaning.specs.Columns.{PartColumn, cell_of_row, column_at}
use Rattle.part_meaning.specs.Meaning.{meaning_of}
use Rattle.part_meaning.specs.Parts.{column_for, known_in, record_of}
use Rattle.part_meaning.proofs.CodeLemmas.{code_within, row_coded}
use Rattle.part_meaning.proofs.ColumnLemmas.{IsColumn, cell_is, is_column, number_by, stored_by}
use Rattle.part_meaning.proofs.KnownLemmas.{null_no, type_for}

-- ---- vectors

-- on candidates alone two vectors have to be the same
each_same : (candidates a b : List Bool) → length a ≡ length b
    → ((row : ℕ) → row < length a → get_or candidates row false ≡ true → get_or a row false ≡ get_or b row false)
    → each_place and candidates a ≡ each_place and candidates b
unfolding each_place
each_same [] a b long same = refl
each_same (x ∷ candidates) [] [] long same = refl
each_same (x ∷ candidates) [] (u ∷ b) long same = absurd (omega arith)
each_same (x ∷ candidates) (t ∷ a) [] long same = absurd (omega arith)
each_same (true ∷ candidates) (t ∷ a) (u ∷ b) long same =
    ap (λ s. s ∷ each_place and candidates a) (same 0 (omega arith) refl)
    ∙ ap (λ l. u ∷ l) (each_same candidates a b (omega arith) (λ row below there. same (suc row) (omega arith) there))
each_same (false ∷ candidates) (t ∷ a) (u ∷ b) long same =
    ap (λ l. false ∷ l) (each_same candidates a b (omega arith) (λ row below there. same (suc row) (omega arith) there))

-- where there is no candidate nothing is found
none_found : (candidates truth : List Bool) → length candidates ≡ length truth
    → ((row : ℕ) → row < length truth → get_or candidates row false ≡ true → ⊥) → candidates ≡ each_place and candidates truth
unfolding each_place
none_found [] truth long none = refl
none_found (x ∷ candidates) [] long none = absurd (omega arith)
none_found (true ∷ candidates) (t ∷ truth) long none = absurd (none 0 (omega arith) refl)
none_found (false ∷ candidates) (t ∷ truth) long none =
    ap (λ l. false ∷ l) (none_found candidates truth (omega arith) (λ row below there. none (suc row) (omega arith) there))

-- a test of the values of cells, on a row
tested_at : {X : Type 0} (test : X → Bool) (value : Cell → X) (cells : List Cell) (row : ℕ) → row < length cells
    → get_or (map test (map value cells)) row false ≡ test (value (get_or cells row Null))
tested_at test value cells row below =
    get_or-map test (map value cells) row (value Null) false (omega (arith, length-map cells value)) ∙ ap test (get_or-mapped value cells row Null)

-- ---- values of a part's column

module _ (dir : List ℕ) (schema : List Column) (part : Partition) (valid : IsPartition schema part) where
  -- a row on which a condition is Unknown has a value
  there_where_unknown : (condition : PlanAtom) (row : ℕ) → known_in schema part row condition ≡ Unknown
      → is_there (cell_of_row (column_for schema part condition) row) ≡ true
  there_where_unknown condition row unknown = by (is_there (cell_of_row (column_for schema part condition) row)) refl
    where
      by : (b : Bool) → is_there (cell_of_row (column_for schema part condition) row) ≡ b → b ≡ true
      by true e = refl
      by false e =
          let no = null_no (column_for schema part condition) row (is_column schema part (place_in condition) valid) condition e in
          absurd cc

  rows_long : (col : ℕ) → length (column_at schema part col).cells ≡ length part.records
  unfolding column_at
  rows_long col = length-map part.records (λ (cells : List Cell). get_or cells col Null)

  -- A test of values finds where the condition is true, if it says so of each row that has a value.
  met_by : {X : Type 0} (condition : PlanAtom) (candidates : List Bool) (test : X → Bool) (value : Cell → X)
      → AreUnknown (meaning_of dir schema part) condition candidates
      → ((row : ℕ) → is_there (cell_of_row (column_for schema part condition) row) ≡ true
      → test (value (cell_of_row (column_for schema part condition) row)) ≡ plan_atom_holds condition (record_of part row))
      → each_place and candidates (map test (map value (column_for schema part condition).cells))
      ≡ each_place and candidates (met_of (meaning_of dir schema part) condition)
  met_by condition candidates test value unknown says =
      let column = column_for schema part condition in
      let rows = length part.records in
      let truth : ℕ → Bool = λ row. plan_atom_holds condition (record_of part row) in
      let long : length (map test (map value column.cells)) ≡ rows = length-map (map value column.cells) test ∙ length-map column.cells value ∙ rows_long (place_in condition) in
      each_same candidates (map test (map value column.cells)) (map (λ row. plan_atom_holds condition (record_of part row)) (range_with_len 0 rows))
      (long ∙ sym (length-map-range_with_len (λ row. plan_atom_holds condition (record_of part row)) 0 rows))
      (λ row below there.
      let within : row < rows = omega (arith, long) in
      tested_at test value column.cells row (omega (arith, within, rows_long (place_in condition)))
      ∙ says row (there_where_unknown condition row (unknown row within there))
      ∙ sym (get_or-map-range_with_len (λ r. plan_atom_holds condition (record_of part r)) 0 rows row row false within (omega arith)))

  -- ---- numbers

  number_says : (spans : List Span) (words : List (List ℕ)) (o : Option (ℤ × ℤ)) (cell : Cell) → is_some o ≡ true → is_there cell ≡ true
      → (word_only : (word : List ℕ) → cell ≡ Word word → is_none o ≡ true)
      → has spans (number_by o words cell) ≡ number_passes (has spans) cell
  unfolding number_by
  number_says spans words o Null number there only = absurd cc
  number_says spans words None (Whole n) number there only = absurd cc
  number_says spans words (Some ends) (Whole n) number there only = refl
  number_says spans words None (Word word) number there only = absurd cc
  number_says spans words (Some ends) (Word word) number there only = let none = only word refl in absurd cc

  word_none : (cell : Cell) (ty : ColType) → CellFits cell ty → (word : List ℕ) → cell ≡ Word word → is_none (ends_of ty) ≡ true
  word_none cell ty fits word is = by (ends_of ty) (subst (λ c. CellFits c ty) is fits)
    where
      by : (o : Option (ℤ × ℤ)) → MatchOption o ((1 ≤ length word) × (length word ≤ 65535)) (λ _. ⊥) → is_none o ≡ true
      by None h = refl
      by (Some ends) h = absurd h

  -- spans have the number of a candidate exactly where the condition is true
  pub numbers_met : (col : ℕ) (spans : List Span) (candidates : List Bool) → FitsColumn schema (atom.Whole col spans)
      → AreUnknown (meaning_of dir schema part) (atom.Whole col spans) candidates → IsSome (width_of (column_at schema part col).ty)
      → each_place and candidates (map (has spans) (stored_numbers (column_at schema part col).ty (column_at schema part col).cells))
      ≡ each_place and candidates (met_of (meaning_of dir schema part) (atom.Whole col spans))
  numbers_met col spans candidates fits unknown width =
      let column = column_at schema part col in
      let is = is_column schema part col valid in
      let number : is_some (ends_of column.ty) ≡ true = ap (λ ty. is_some (ends_of ty)) (type_for schema part (atom.Whole col spans) fits) ∙ fits.suited in
      ap (λ ns. each_place and candidates (map (has spans) ns)) (stored_by column.ty column.cells width)
      ∙ met_by (atom.Whole col spans) candidates (has spans) (number_by (ends_of column.ty) (dictionary_of column.cells)) unknown
      (λ row there.
      number_says spans (dictionary_of column.cells) (ends_of column.ty) (cell_of_row column row) number there (word_none (cell_of_row column row) column.ty (is.fits row))
      ∙ ap (number_passes (has spans)) (cell_is schema part col row))

  -- ---- codes

  code_passes_range : (words : List (List ℕ)) (code : ℕ) → (1 ≤ code) × (code ≤ length words) → in_span (pos code) (code_range words) ≡ true
  code_passes_range words code within =
      let low : pos 1 ≤ℤ pos code = omega (arith, ints, within.0) in
      let high : pos code ≤ℤ pos (length words) = omega (arith, ints, within.1) in
      ap (λ b. b && int_le (pos code) (pos (length words))) (int_le-true (pos 1) (pos code) low) ∙ int_le-true (pos code) (pos (length words)) high

  code_says : (cells : List Cell) (row : ℕ) (condition : Atom) (spans : List Span) (o : Option (ℤ × ℤ))
      → ((n : ℤ) → has spans n ≡ (in_span n (code_range (dictionary_of cells)) && code_meets condition (dictionary_of cells) n))
      → is_none o ≡ true → (cell : Cell) → get_or cells row Null ≡ cell → ((n : ℤ) → cell ≡ Whole n → is_some o ≡ true) → is_there cell ≡ true
      → has spans (number_by o (dictionary_of cells) cell) ≡ is_met condition cell
  unfolding number_by
  code_says cells row condition spans (Some ends) codes text cell is only there = absurd cc
  code_says cells row condition spans None codes text Null is only there = absurd cc
  code_says cells row condition spans None codes text (Whole n) is only there = let some = only n refl in absurd cc
  code_says cells row condition spans None codes text (Word word) is only there =
      let words = dictionary_of cells in
      let coded = row_coded cells row word is in
      ap (λ c. has spans (pos (unwrap_or c 0))) coded.is
      ∙ codes (pos coded.code)
      ∙ ap (λ b. b && code_meets condition words (pos coded.code)) (code_passes_range words coded.code (code_within words word coded.code coded.is))
      ∙ ap (some_passes (λ w. is_met condition (Word w))) (word_of_code words word coded.code coded.is)

  whole_some : (cell : Cell) (ty : ColType) → CellFits cell ty → (n : ℤ) → cell ≡ Whole n → is_some (ends_of ty) ≡ true
  whole_some cell ty fits n is = by (ends_of ty) (subst (λ c. CellFits c ty) is fits)
    where
      by : (o : Option (ℤ × ℤ)) → MatchOption o ⊥ (λ ends. (ends.0 ≤ℤ n) × (n ≤ℤ ends.1)) → is_some o ≡ true
      by None h = absurd h
      by (Some ends) h = refl

  -- the codes' spans have the code of a candidate exactly where the condition is true
  pub codes_met : (col : ℕ) (condition : Atom) (spans : List Span) (candidates : List Bool) → FitsColumn schema (atom.Word col condition)
      → AreUnknown (meaning_of dir schema part) (atom.Word col condition) candidates → IsSome (width_of (column_at schema part col).ty)
      → ((n : ℤ) → has spans n ≡ (in_span n (code_range (dictionary_of (column_at schema part col).cells))
      && code_meets condition (dictionary_of (column_at schema part col).cells) n))
      → each_place and candidates (map (has spans) (stored_numbers (column_at schema part col).ty (column_at schema part col).cells))
      ≡ each_place and candidates (met_of (meaning_of dir schema part) (atom.Word col condition))
  codes_met col condition spans candidates fits unknown width codes =
      let column = column_at schema part col in
      let is = is_column schema part col valid in
      let text : is_none (ends_of column.ty) ≡ true = ap (λ ty. is_none (ends_of ty)) (type_for schema part (atom.Word col condition) fits) ∙ fits.suited in
      ap (λ ns. each_place and candidates (map (has spans) ns)) (stored_by column.ty column.cells width)
      ∙ met_by (atom.Word col condition) candidates (has spans) (number_by (ends_of column.ty) (dictionary_of column.cells)) unknown
      (λ row there.
      code_says column.cells row condition spans (ends_of column.ty) codes text (cell_of_row column row) refl (whole_some (cell_of_row column row) column.ty (is.fits row)) there
      ∙ ap (is_met condition) (cell_is schema part col row))

  -- ---- texts

  text_says : (condition : Atom) (o : Option (ℤ × ℤ)) (cell : Cell) → is_none o ≡ true → is_there cell ≡ true
      → ((n : ℤ) → cell ≡ Whole n → is_some o ≡ true)
      → meets condition (unwrap_or (word_of cell) []) ≡ is_met condition cell
  text_says condition o Null text there only = absurd cc
  text_says condition o (Whole n) text there only = absurd (both o text (only n refl))
    where
      both : (o : Option (ℤ × ℤ)) → is_none o ≡ true → is_some o ≡ true → ⊥
      both None h k = absurd cc
      both (Some ends) h k = absurd cc
  text_says condition o (Word word) text there only = refl

  -- the text of a candidate meets the condition exactly where it is true
  pub texts_met : (col : ℕ) (condition : Atom) (candidates : List Bool) → FitsColumn schema (atom.Word col condition)
      → AreUnknown (meaning_of dir schema part) (atom.Word col condition) candidates
      → each_place and candidates (map (meets condition) (texts_of (column_at schema part col).cells))
      ≡ each_place and candidates (met_of (meaning_of dir schema part) (atom.Word col condition))
  texts_met col condition candidates fits unknown =
      let column = column_at schema part col in
      let is = is_column schema part col valid in
      let text : is_none (ends_of column.ty) ≡ true = ap (λ ty. is_none (ends_of ty)) (type_for schema part (atom.Word col condition) fits) ∙ fits.suited in
      met_by (atom.Word col condition) candidates (meets condition) (λ cell. unwrap_or (word_of cell) []) unknown
      (λ row there.
      text_says condition (ends_of column.ty) (cell_of_row column row) text there (whole_some (cell_of_row column row) column.ty (is.fits row))
      ∙ ap (is_met condition) (cell_is schema part col row))

  -- ---- whether there is a value

  never_unknown : (b : Bool) → decided b ≡ Unknown → ⊥
  never_unknown true h = cc
  never_unknown false h = cc

  exists_known : (col row : ℕ) → known_in schema part row (atom.Exists col) ≡ decided (is_there (cell_of_row (column_at schema part col) row))
  unfolding known
  exists_known col row = refl

  -- that is known of each row, so there are no candidates
  pub exists_met : (col : ℕ) (candidates : List Bool) → AreUnknown (meaning_of dir schema part) (atom.Exists col) candidates
      → length candidates ≡ length part.records
      → candidates ≡ each_place and candidates (met_of (meaning_of dir schema part) (atom.Exists col))
  exists_met col candidates unknown long =
      let rows = length part.records in
      let same : length (map (λ row. plan_atom_holds (atom.Exists col) (record_of part row)) (range_with_len 0 rows)) ≡ rows
      = length-map-range_with_len (λ row. plan_atom_holds (atom.Exists col) (record_of part row)) 0 rows in
      none_found candidates (map (λ row. plan_atom_holds (atom.Exists col) (record_of part row)) (range_with_len 0 rows)) (long ∙ sym same)
      (λ row below there. never_unknown (is_there (cell_of_row (column_at schema part col) row)) (sym (exists_known col row) ∙ unknown row (omega (arith, same)) there))

-- ---- steps

-- a look at each word of the candidates
pub few_steps : (candidates : List Bool) (rows old new : ℕ) → length candidates ≡ rows → new ≤ old + words_of candidates
    → new ≤ old + 2 * groups_and_rest rows
few_steps candidates rows old new long steps = omega (arith, words_few rows candidates long)
