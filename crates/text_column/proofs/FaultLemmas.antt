-- What reading a dictionary's bytes has found: the words, or the first fault.
use Rattle.std.proofs.Common.{◌≡◌, inl, inr, ℕ, zero, suc, ◌+◌, ◌<◌, ◌≤◌, true, false, cond, List, [], ◌∷◌, ◌++◌, length, drop, Result, Ok, Err, IfOk, nat_lt, refl, sym, ap, subst, ◌∙◌, arith, length-append, append_assoc, append-nil}
use mir.Syntax.{w32}
use Rattle.std.specs.Int.{to_le_bytes}
use Rattle.std.proofs.lemmas.Bool.{ltb-true, ltb-false}
use Rattle.text_column.specs.Words.{IsDictionary, most_words}
use Rattle.text_column.specs.DictionaryFile.{Begins, IsFaultOf, word_bytes, words_bytes, dictionary_bytes, count_at, and_then, words_in, counted_in, dictionary_in}
use Rattle.answers.specs.Answers.{Answers}
use Rattle.text_column.specs.OpenedDictionary.{told_by_file}
use Rattle.text_column.specs.declared.fault.DicFault.{DicFault}
use Rattle.text_column.specs.declared.fault.DicFault.TheVariants.{Short, TooMany}
use Rattle.column_file.proofs.NumberLemmas.{AreBytes, AreBytes-drop}
use Rattle.text_column.proofs.NumberLemmas.{wide_32, number_spelled}
use Rattle.text_column.proofs.WordLemmas.{no_words, dictionary-append}
use Rattle.text_column.proofs.DictionaryLemmas.{next_word}
use Rattle.text_column.proofs.DictionaryLemmas.Next.{Cut, None_in, Again, New}

-- what the words behind these are, or what is wrong with them
abbrev pub Found : List ℕ → List (List ℕ) → Result (List (List ℕ)) DicFault → Type 0
Found bytes done (Ok words) = IsDictionary words × (bytes ≡ dictionary_bytes words)
Found bytes done (Err fault) = IsFaultOf bytes fault

words_bytes-append : (done : List (List ℕ)) (word : List ℕ) → words_bytes (done ++ word ∷ []) ≡ words_bytes done ++ word_bytes word
words_bytes-append [] word = append-nil (word_bytes word)
words_bytes-append (w ∷ ws) word = ap (λ r. word_bytes w ++ r) (words_bytes-append ws word) ∙ sym (append_assoc (word_bytes w) (words_bytes ws) (word_bytes word))

begins_more : (bytes : List ℕ) (count : ℕ) (done : List (List ℕ)) (front word rest : List ℕ) → Begins bytes count done front → front ≡ word_bytes word ++ rest
    → IsDictionary (done ++ word ∷ []) → Begins bytes count (done ++ word ∷ []) rest
begins_more bytes count done front word rest h is valid = record {
  is = h.is ∙ ap (λ r. to_le_bytes w32 count ++ (words_bytes done ++ r)) is
      ∙ ap (λ r. to_le_bytes w32 count ++ r) (sym (append_assoc (words_bytes done) (word_bytes word) rest))
      ∙ ap (λ r. to_le_bytes w32 count ++ (r ++ rest)) (sym (words_bytes-append done word));
  dictionary = valid;
  limit = h.limit;
}

at_front : (bytes : List ℕ) (count : ℕ) (done : List (List ℕ)) (rest other : List ℕ) → rest ≡ other → Begins bytes count done rest → Begins bytes count done other
at_front bytes count done rest other e h = subst (Begins bytes count done) e h

found_words : (bytes : List ℕ) (count n : ℕ) (done : List (List ℕ)) (rest : List ℕ) → AreBytes rest → length done + n ≡ count → Begins bytes count done rest
    → Found bytes done (words_in n (done, rest))
unfolding dictionary_bytes
found_words bytes count zero done [] are all h =
    let same : count ≡ length done = omega arith in
    (h.dictionary, h.is ∙ ap (λ r. to_le_bytes w32 count ++ r) (append-nil (words_bytes done)) ∙ ap (λ n. to_le_bytes w32 n ++ words_bytes done) same)
found_words bytes count zero done (b ∷ bs) are all h =
    let same : count ≡ length done = omega arith in
    (done, b, bs, subst (λ n. Begins bytes n done (b ∷ bs)) same h)
found_words bytes count (suc n) done rest are all h =
    let more : length done < count = omega arith in
    elim (next_word done rest are) [
      | Cut cut is ↦ subst (λ r. Found bytes done (and_then r (words_in n))) (sym is) (inr (done, rest, (count, more, h), cut))
      | None_in behind spelled is ↦
          subst (λ r. Found bytes done (and_then r (words_in n))) (sym is) (done, behind, (count, more, at_front bytes count done rest _ spelled h), refl)
      | Again word behind spelled there is ↦
          subst (λ r. Found bytes done (and_then r (words_in n))) (sym is) (done, word, behind, (count, more, at_front bytes count done rest _ spelled h), there, refl)
      | New word behind spelled proper new bytes_behind is ↦
          let limit = h.limit in
          let valid = dictionary-append done word h.dictionary proper (omega arith) new in
          let size : length (done ++ word ∷ []) + n ≡ count = omega (arith, length-append done (word ∷ [])) in
          subst (λ r. Found bytes done (and_then r (words_in n))) (sym is)
          (found_words bytes count n (done ++ word ∷ []) behind bytes_behind size (begins_more bytes count done rest word behind h spelled valid))
    ]

found_counted : (bytes : List ℕ) → AreBytes bytes → 4 ≤ length bytes → Found bytes [] (counted_in (count_at bytes) (drop 4 bytes))
found_counted bytes are four =
    elim (nat_lt most_words (count_at bytes)) as (λ b. nat_lt most_words (count_at bytes) ≡ b → Found bytes [] (cond b (Err TooMany) (words_in (count_at bytes) ([], drop 4 bytes)))) [
      | true ↦ λ e. (four, ltb-true most_words (count_at bytes) e)
      | false ↦ λ e.
          let all : 0 + count_at bytes ≡ count_at bytes = omega arith in
          found_words bytes (count_at bytes) (count_at bytes) [] (drop 4 bytes) (AreBytes-drop 4 bytes are) all
          (record { is = number_spelled w32 4 wide_32 bytes are four; dictionary = no_words; limit = ltb-false most_words (count_at bytes) e })
    ] refl

-- the whole file
pub found_in : (bytes : List ℕ) → AreBytes bytes → Found bytes [] (dictionary_in bytes)
unfolding dictionary_in
found_in bytes are =
    elim (nat_lt (length bytes) 4) as (λ b. nat_lt (length bytes) 4 ≡ b → Found bytes [] (cond b (Err Short) (counted_in (count_at bytes) (drop 4 bytes)))) [
      | true ↦ λ e. inl (ltb-true (length bytes) 4 e)
      | false ↦ λ e. found_counted bytes are (ltb-false (length bytes) 4 e)
    ] refl

pub found_dictionary : (bytes : List ℕ) (words : List (List ℕ)) → AreBytes bytes → dictionary_in bytes ≡ Ok words → IsDictionary words × (bytes ≡ dictionary_bytes words)
found_dictionary bytes words are h = subst (Found bytes []) h (found_in bytes are)

pub found_fault : (bytes : List ℕ) (fault : DicFault) → AreBytes bytes → dictionary_in bytes ≡ Err fault → IsFaultOf bytes fault
found_fault bytes fault are h = subst (Found bytes []) h (found_in bytes are)

pub found_result : (bytes : List ℕ) (result : Result (List (List ℕ)) DicFault) → AreBytes bytes → Answers told_by_file result (dictionary_in bytes)
    → IfOk result (λ words. bytes ≡ dictionary_bytes words)
found_result bytes (Ok words) are h = (found_dictionary bytes words are h).1
found_result bytes (Err fault) are h = tt
