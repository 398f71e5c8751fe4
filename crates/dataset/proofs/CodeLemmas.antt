-- The codes of a category's cells, and its words.
use Rattle.std.proofs.Common.{◌≡◌, ◌<◌, ◌≤◌, ◌+◌, ◌^◌, ℕ, pos, Bool, true, false, cond, List, [], ◌∷◌, ◌++◌, Some, length, map, unwrap_or, refl, sym, ap, ◌∙◌, arith, rules, append-nil, length-append}
use Rattle.std.specs.List.{filter_map, list_any}
use Rattle.std.specs.Str.{bytes_eq}
use Rattle.std.proofs.lemmas.List.Elements.{filter_map-append}
use Rattle.std.proofs.lemmas.List.Sums.{fold-append}
use Rattle.fb_types.specs.declared.cells.Cell.{Cell}
use Rattle.fb_types.specs.declared.cells.Cell.TheVariants.{Null, Whole, Word}
use Rattle.fb_types.specs.declared.types.ColType.TheVariants.{Category}
use Rattle.column_file.specs.Values.{ValueFits}
use Rattle.text_column.specs.Words.{code_in, first_seen, with_word}
use Rattle.text_column.proofs.WordLemmas.{code_kept, no_code}
use Rattle.world.specs.Cells.{code_of, dictionary_of, word_of}
use Rattle.dataset.specs.WrittenColumns.{IsCodeOf, with_cell}

-- ---- one more cell

pub dictionary_more : (cells : List Cell) (cell : Cell) → dictionary_of (cells ++ cell ∷ []) ≡ with_cell (dictionary_of cells) cell
dictionary_more cells Null = ap first_seen (filter_map-append word_of cells (Null ∷ []) ∙ append-nil (filter_map word_of cells))
dictionary_more cells (Whole n) = ap first_seen (filter_map-append word_of cells (Whole n ∷ []) ∙ append-nil (filter_map word_of cells))
dictionary_more cells (Word word) =
    ap first_seen (filter_map-append word_of cells (Word word ∷ [])) ∙ fold-append with_word [] (filter_map word_of cells) (word ∷ [])

pub length-with_cell : (words : List (List ℕ)) (cell : Cell) → length (with_cell words cell) ≤ length words + 1
length-with_cell words Null = omega arith
length-with_cell words (Whole n) = omega arith
length-with_cell words (Word word) =
    elim (list_any (bytes_eq word) words) as (λ b. length (cond b words (words ++ word ∷ [])) ≤ length words + 1) [
      | true ↦ omega arith
      | false ↦ omega (arith, length-append words (word ∷ []))
    ]

-- a word that has a code is there
pub known_word : (words : List (List ℕ)) (word : List ℕ) (code : ℕ) → code_in words word ≡ Some code → words ≡ with_word words word
known_word words word code h = by_test (list_any (bytes_eq word) words) refl
  where
    by_test : (b : Bool) → list_any (bytes_eq word) words ≡ b → words ≡ with_word words word
    by_test true e = sym (ap (λ b. cond b words (words ++ word ∷ [])) e)
    by_test false e = let none = no_code words word e in absurd (cc)

-- ---- codes that were given stay

-- the cell's word, where it has one, has a code
abbrev pub IsCoded : List (List ℕ) → Cell → Type 0
IsCoded words Null = Unit {0}
IsCoded words (Whole n) = Unit {0}
IsCoded words (Word word) = (code : ℕ) × (code_in words word ≡ Some code)

abbrev pub AllCoded : List (List ℕ) → List Cell → Type 0
AllCoded words [] = Unit {0}
AllCoded words (cell ∷ cells) = IsCoded words cell × AllCoded words cells

coded_kept : (words : List (List ℕ)) (new cell : Cell) → IsCoded words cell → IsCoded (with_cell words new) cell
coded_kept words Null cell h = h
coded_kept words (Whole n) cell h = h
coded_kept words (Word v) Null h = tt
coded_kept words (Word v) (Whole n) h = tt
coded_kept words (Word v) (Word word) h = (h.0, code_kept words word v h.0 h.1)

code_same : (words : List (List ℕ)) (new cell : Cell) → IsCoded words cell → code_of (with_cell words new) cell ≡ code_of words cell
code_same words Null cell h = refl
code_same words (Whole n) cell h = refl
code_same words (Word v) Null h = refl
code_same words (Word v) (Whole n) h = refl
code_same words (Word v) (Word word) h = ap (λ o. pos (unwrap_or o 0)) (code_kept words word v h.0 h.1 ∙ sym h.1)

pub all_coded_kept : (words : List (List ℕ)) (new : Cell) (cells : List Cell) → AllCoded words cells → AllCoded (with_cell words new) cells
all_coded_kept words new [] h = tt
all_coded_kept words new (cell ∷ cells) h = (coded_kept words new cell h.0, all_coded_kept words new cells h.1)

pub codes_same : (words : List (List ℕ)) (new : Cell) (cells : List Cell) → AllCoded words cells
    → map (code_of (with_cell words new)) cells ≡ map (code_of words) cells
codes_same words new [] h = refl
codes_same words new (cell ∷ cells) h =
    ap (λ z. z ∷ map (code_of (with_cell words new)) cells) (code_same words new cell h.0)
    ∙ ap (λ zs. code_of words cell ∷ zs) (codes_same words new cells h.1)

-- ---- the code of one cell

pub all_coded_more : (words : List (List ℕ)) (cells : List Cell) (cell : Cell) (code : ℕ) → AllCoded words cells → IsCodeOf words cell code
    → AllCoded words (cells ++ cell ∷ [])
all_coded_more words [] Null code h is = (tt, tt)
all_coded_more words [] (Whole n) code h is = (tt, tt)
all_coded_more words [] (Word word) code h is = ((code, is), tt)
all_coded_more words (x ∷ xs) cell code h is = (h.0, all_coded_more words xs cell code h.1 is)

pub code_is : (words : List (List ℕ)) (cell : Cell) (code : ℕ) → IsCodeOf words cell code → pos code ≡ code_of words cell
code_is words Null code is = ap pos is
code_is words (Whole n) code is = ap pos is
code_is words (Word word) code is = ap (λ o. pos (unwrap_or o 0)) (sym is)

pub code_fits : (code : ℕ) → code < 2 ^ 32 → ValueFits (pos code) Category
code_fits code h = search rules
