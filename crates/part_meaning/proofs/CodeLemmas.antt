-- The codes of a category's words.
use Rattle.std.proofs.Common.{◌≡◌, ℕ, zero, suc, ◌+◌, ◌≤◌, List, [], ◌∷◌, length, get_or, Some, sym, ap, ◌∙◌, arith}
use Rattle.std.specs.List.{filter_map, fold, slice_get}
use Rattle.std.proofs.lemmas.Option.{slice_get_within}
use Rattle.std.proofs.lemmas.List.Elements.{}
use Rattle.fb_types.specs.declared.cells.Cell.{Cell}
use Rattle.fb_types.specs.declared.cells.Cell.TheVariants.{Null, Whole, Word}
use Rattle.text_column.specs.Words.{code_in, with_word, word_in}
use Rattle.text_column.proofs.WordLemmas.{code_kept, code_seen}
use Rattle.text_column.proofs.DictionaryLemmas.{word_next, word_of_code}
use Rattle.world.specs.Cells.{dictionary_of, word_of}

-- the word has a code
pub record IsCoded (words : List (List ℕ)) (word : List ℕ) : Type 0 where
  pub code : ℕ
  pub is : code_in words word ≡ Some code

kept_through : (done words : List (List ℕ)) (word : List ℕ) → IsCoded done word → IsCoded (fold with_word done words) word
kept_through done [] word coded = coded
kept_through done (next ∷ words) word coded =
    kept_through (with_word done next) words word (record { code = coded.code; is = code_kept done word next coded.code coded.is })

coded_from : (done : List (List ℕ)) (cells : List Cell) (row : ℕ) (word : List ℕ) → get_or cells row Null ≡ Word word
    → IsCoded (fold with_word done (filter_map word_of cells)) word
coded_from done [] row word h = absurd cc
coded_from done (Null ∷ cells) zero word h = absurd cc
coded_from done (Null ∷ cells) (suc row) word h = coded_from done cells row word h
coded_from done (Whole n ∷ cells) zero word h = absurd cc
coded_from done (Whole n ∷ cells) (suc row) word h = coded_from done cells row word h
coded_from done (Word first ∷ cells) zero word h =
    let same : first ≡ word = cc in
    kept_through (with_word done first) (filter_map word_of cells) word
    (rw (sym same) (record { code = _; is = code_seen done first }))
coded_from done (Word first ∷ cells) (suc row) word h = coded_from (with_word done first) cells row word h

-- the word of a row has a code
pub row_coded : (cells : List Cell) (row : ℕ) (word : List ℕ) → get_or cells row Null ≡ Word word → IsCoded (dictionary_of cells) word
row_coded cells row word h = coded_from [] cells row word h

-- codes are counted from 1
pub code_within : (words : List (List ℕ)) (word : List ℕ) (code : ℕ) → code_in words word ≡ Some code → (1 ≤ code) × (code ≤ length words)
code_within words word zero h = let at = word_of_code words word zero h in absurd cc
code_within words word (suc k) h =
    let one : k + 1 ≡ suc k = omega arith in
    let at : slice_get words k ≡ Some word = sym (word_next words k) ∙ ap (word_in words) one ∙ word_of_code words word (suc k) h in
    let below = slice_get_within words k word at in
    (omega arith, omega (arith, below))
