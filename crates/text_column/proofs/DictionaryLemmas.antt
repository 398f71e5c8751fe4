-- The bytes of a dictionary, both ways.
use Rattle.std.proofs.Common.{◌≡◌, ◌≢◌, inl, inr, ℕ, zero, suc, ◌+◌, ◌-◌, ◌^◌, ◌<◌, ◌≤◌, Bool, true, false, not, cond, ◌||◌, List, [], ◌∷◌, ◌++◌, length, take, drop, take-append-drop, Option, Some, None, Result, Ok, Err, option_map, slice_get, fold, nat_lt, refl, sym, ap, subst, ◌∙◌, arith, length-append, append_assoc, append-nil}
use mir.Syntax.{w16, w32}
use Rattle.std.specs.Int.{to_le_bytes, from_le_bytes}
use Rattle.std.specs.List.{list_any, AllByRecursion, IsDistinct, position_or_len}
use Rattle.std.specs.Str.{bytes_eq}
use Rattle.std.proofs.Math.Seq.{take-append_seam, drop-append_seam}
use Rattle.std.proofs.lemmas.Bool.{lt-ltb, le-ltb, ltb-true, ltb-false}
use Rattle.std.proofs.lemmas.List.{length-take-le, take_all}
use Rattle.std.proofs.lemmas.Slice.Eq.{bytes_eq-Decides}
use Rattle.std.proofs.Math.Dec.{eqb-suc-zero}
use Rattle.text_column.specs.Words.{IsWord, IsDictionary, code_in, word_in, with_word, first_seen, most_words}
use Rattle.text_column.specs.DictionaryFile.{IsCutOff, word_bytes, words_bytes, dictionary_bytes, size_at, count_at, sized_at, word_at, taken, taken_as, with_rest, next_in, to_its_end, and_then, words_in, counted_in, dictionary_in}
use Rattle.answers.specs.Answers.{Answers, Tells}
use Rattle.text_column.specs.OpenedDictionary.{told_by_file}
use Rattle.text_column.specs.declared.fault.DicFault.{DicFault}
use Rattle.text_column.specs.declared.fault.DicFault.TheVariants.{Short, TooMany, Empty, Repeated, Trailing, Missing, Store, OutOfMemory}
use Rattle.column_file.proofs.NumberLemmas.{AreBytes, AreBytes-take, AreBytes-drop}
use Rattle.text_column.proofs.NumberLemmas.{wide_16, wide_32, number_front, number_rest, number_spelled}
use Rattle.text_column.proofs.WordLemmas.{was_there, other_way, bytes_same, no_words, dictionary_with}

repeated_as : (words : List (List ℕ)) (word : List ℕ) → 0 < length word → list_any (bytes_eq word) words ≡ true
    → taken_as words word ≡ Err (Repeated (length words + 1))
repeated_as words [] some there = absurd (omega arith)
repeated_as words (b ∷ bs) some there = ap (λ x. cond x (Err (Repeated (length words + 1))) (Ok (words ++ (b ∷ bs) ∷ []))) there

-- a word that was there
pub repeated_next : (words : List (List ℕ)) (word rest bytes : List ℕ) (given : ℕ) → Some (word, rest) ≡ word_at bytes → 0 < length word
    → code_in (with_word words word) word ≡ Some given → given ≢ length words + 1 → next_in words bytes ≡ Err (Repeated (length words + 1))
repeated_next words word rest bytes given at some code other =
    ap (taken words) (sym at) ∙ ap (with_rest rest) (repeated_as words word some (was_there words word given code other))

new_as : (words : List (List ℕ)) (word : List ℕ) → 0 < length word → list_any (bytes_eq word) words ≡ false → taken_as words word ≡ Ok (words ++ word ∷ [])
new_as words [] some new = absurd (omega arith)
new_as words (b ∷ bs) some new = ap (λ x. cond x (Err (Repeated (length words + 1))) (Ok (words ++ (b ∷ bs) ∷ []))) new

-- ---- the loop that reads

-- what stops at the next word stops the whole
pub stops_next : (fault : DicFault) (next : Result (List (List ℕ) × List ℕ) DicFault) (go : List (List ℕ) × List ℕ → Result (List (List ℕ)) DicFault)
    (given : Result (List (List ℕ)) DicFault) → given ≡ and_then next go → Tells told_by_file (λ told. next ≡ Err told) fault → Answers told_by_file (Err fault) given
stops_next Short next go given is h = is ∙ ap (λ r. and_then r go) h
stops_next TooMany next go given is h = is ∙ ap (λ r. and_then r go) h
stops_next (Empty code) next go given is h = is ∙ ap (λ r. and_then r go) h
stops_next (Repeated code) next go given is h = is ∙ ap (λ r. and_then r go) h
stops_next Trailing next go given is h = is ∙ ap (λ r. and_then r go) h
stops_next Missing next go given is h = is ∙ ap (λ r. and_then r go) h
stops_next Store next go given is h = tt
stops_next OutOfMemory next go given is h = tt

-- one word more is read
pub words_next : (n count : ℕ) (words : List (List ℕ)) (bytes : List ℕ) → n < count
    → words_in (count - n) (words, bytes) ≡ and_then (next_in words bytes) (words_in (count - (n + 1)))
words_next n count words bytes h =
    let step : count - n ≡ suc (count - (n + 1)) = omega arith in
    ap (λ k. words_in k (words, bytes)) step

pub words_end : (n count : ℕ) (words : List (List ℕ)) (bytes : List ℕ) → count ≤ n → words_in (count - n) (words, bytes) ≡ to_its_end (words, bytes)
words_end n count words bytes h =
    let none : count - n ≡ 0 = omega arith in
    ap (λ k. words_in k (words, bytes)) none

longer_as : (words : List (List ℕ)) (word : List ℕ) (more : List (List ℕ)) → taken_as words word ≡ Ok more → length more ≡ length words + 1
longer_as words [] more h = absurd (cc)
longer_as words (b ∷ bs) more h =
    elim (list_any (bytes_eq (b ∷ bs)) words) as (λ x. cond x (Err (Repeated (length words + 1))) (Ok (words ++ (b ∷ bs) ∷ [])) ≡ Ok more → length more ≡ length words + 1) [
      | true ↦ λ e. absurd (cc)
      | false ↦ λ e. let same : words ++ (b ∷ bs) ∷ [] ≡ more = cc in ap length (sym same) ∙ length-append words ((b ∷ bs) ∷ [])
    ] h

-- ---- the next word

-- what stands at the front of bytes behind these words
pub data Next (words : List (List ℕ)) (bytes : List ℕ) : Type 0 where
  Cut : IsCutOff bytes → next_in words bytes ≡ Err Short → Next words bytes
  None_in : (rest : List ℕ) → bytes ≡ word_bytes [] ++ rest → next_in words bytes ≡ Err (Empty (length words + 1)) → Next words bytes
  Again : (word rest : List ℕ) → bytes ≡ word_bytes word ++ rest → list_any (bytes_eq word) words ≡ true
      → next_in words bytes ≡ Err (Repeated (length words + 1)) → Next words bytes
  New : (word rest : List ℕ) → bytes ≡ word_bytes word ++ rest → IsWord word → list_any (bytes_eq word) words ≡ false → AreBytes rest
      → next_in words bytes ≡ Ok (words ++ word ∷ [], rest) → Next words bytes

next_of : (words : List (List ℕ)) (bytes word rest : List ℕ) → bytes ≡ word_bytes word ++ rest → length word ≤ 65535 → AreBytes rest
    → word_at bytes ≡ Some (word, rest) → Next words bytes
next_of words bytes [] rest is short are at = None_in rest is (ap (taken words) at)
next_of words bytes (b ∷ bs) rest is short are at =
    elim (list_any (bytes_eq (b ∷ bs)) words) as (λ x. list_any (bytes_eq (b ∷ bs)) words ≡ x → Next words bytes) [
      | true ↦ λ e. Again (b ∷ bs) rest is e (ap (taken words) at ∙ ap (with_rest rest) (repeated_as words (b ∷ bs) (omega arith) e))
      | false ↦ λ e. New (b ∷ bs) rest is (omega arith, short) e are (ap (taken words) at ∙ ap (with_rest rest) (new_as words (b ∷ bs) (omega arith) e))
    ] refl

next_sized : (words : List (List ℕ)) (bytes : List ℕ) → AreBytes bytes → 2 ≤ length bytes → size_at bytes ≤ length (drop 2 bytes) → Next words bytes
next_sized words bytes are two room =
    let size = size_at bytes in
    let rest = drop 2 bytes in
    let front : length (take size rest) ≡ size = length-take-le size rest room in
    let small : size < 65536 = wide_16.small (take 2 bytes) (AreBytes-take 2 bytes are) in
    let spelled : bytes ≡ word_bytes (take size rest) ++ drop size rest =
    number_spelled w16 2 wide_16 bytes are two
    ∙ ap (λ r. to_le_bytes w16 size ++ r) (sym (take-append-drop size rest))
    ∙ sym (append_assoc (to_le_bytes w16 size) (take size rest) (drop size rest))
    ∙ ap (λ n. (to_le_bytes w16 n ++ take size rest) ++ drop size rest) (sym front) in
    let at : word_at bytes ≡ Some (take size rest, drop size rest) =
    ap (λ b. cond b None (sized_at size rest)) (le-ltb (length bytes) 2 two)
    ∙ ap (λ b. cond b None (Some (take size rest, drop size rest))) (le-ltb (length rest) size room) in
    next_of words bytes (take size rest) (drop size rest) spelled (omega (arith, front, small)) (AreBytes-drop size rest (AreBytes-drop 2 bytes are)) at

cut_short : (words : List (List ℕ)) (bytes : List ℕ) → IsCutOff bytes → next_in words bytes ≡ Err Short
cut_short words bytes (inl few) = ap (λ b. taken words (cond b None (sized_at (size_at bytes) (drop 2 bytes)))) (lt-ltb (length bytes) 2 few)
cut_short words bytes (inr few) =
    elim (nat_lt (length bytes) 2) as (λ b. taken words (cond b None (sized_at (size_at bytes) (drop 2 bytes))) ≡ Err Short) [
      | true ↦ refl
      | false ↦ ap (λ b. taken words (cond b None (Some (take (size_at bytes) (drop 2 bytes), drop (size_at bytes) (drop 2 bytes))))) (lt-ltb (length (drop 2 bytes)) (size_at bytes) few)
    ]

pub next_word : (words : List (List ℕ)) (bytes : List ℕ) → AreBytes bytes → Next words bytes
next_word words bytes are =
    elim (nat_lt (length bytes) 2) as (λ b. nat_lt (length bytes) 2 ≡ b → Next words bytes) [
      | true ↦ λ e. let cut : IsCutOff bytes = inl (ltb-true (length bytes) 2 e) in Cut cut (cut_short words bytes cut)
      | false ↦ λ e.
          elim (nat_lt (length (drop 2 bytes)) (size_at bytes)) as (λ b. nat_lt (length (drop 2 bytes)) (size_at bytes) ≡ b → Next words bytes) [
            | true ↦ λ f. let cut : IsCutOff bytes = inr (ltb-true (length (drop 2 bytes)) (size_at bytes) f) in Cut cut (cut_short words bytes cut)
            | false ↦ λ f. next_sized words bytes are (ltb-false (length bytes) 2 e) (ltb-false (length (drop 2 bytes)) (size_at bytes) f)
          ] refl
    ] refl

-- ---- a dictionary is read back

word_again : (word rest : List ℕ) → length word ≤ 65535 → word_at (word_bytes word ++ rest) ≡ Some (word, rest)
word_again word rest short =
    let whole = word_bytes word ++ rest in
    let is : whole ≡ to_le_bytes w16 (length word) ++ (word ++ rest) = append_assoc (to_le_bytes w16 (length word)) word rest in
    let fits : length word < 2 ^ 16 = omega arith in
    let size : size_at whole ≡ length word = ap (λ b. from_le_bytes w16 (take 2 b)) is ∙ number_front w16 2 wide_16 (length word) (word ++ rest) fits in
    let behind : drop 2 whole ≡ word ++ rest = ap (drop 2) is ∙ number_rest w16 2 wide_16 (length word) (word ++ rest) in
    let two : 2 ≤ length whole = omega (arith, ap length is, length-append (to_le_bytes w16 (length word)) (word ++ rest), wide_16.size_is (length word)) in
    let room : length word ≤ length (word ++ rest) = omega (arith, length-append word rest) in
    ap (λ b. cond b None (sized_at (size_at whole) (drop 2 whole))) (le-ltb (length whole) 2 two)
    ∙ ap (λ n. sized_at n (drop 2 whole)) size ∙ ap (sized_at (length word)) behind
    ∙ ap (λ b. cond b None (Some (take (length word) (word ++ rest), drop (length word) (word ++ rest)))) (le-ltb (length (word ++ rest)) (length word) room)
    ∙ ap (λ f. Some (f, drop (length word) (word ++ rest))) (take-append_seam word rest) ∙ ap (λ r. Some (word, r)) (drop-append_seam word rest)

after_each : (done more : List (List ℕ)) → AllByRecursion IsWord (done ++ more) → AllByRecursion IsWord more
after_each [] more h = h
after_each (w ∷ ws) more h = after_each ws more h.1

differs_behind : (x word : List ℕ) (done more : List (List ℕ)) → AllByRecursion (λ y. bytes_eq x y ≡ false) (done ++ word ∷ more) → bytes_eq x word ≡ false
differs_behind x word [] more h = h.0
differs_behind x word (w ∷ ws) more h = differs_behind x word ws more h.1

new_behind : (done : List (List ℕ)) (word : List ℕ) (more : List (List ℕ)) → IsDistinct bytes_eq (done ++ word ∷ more) → list_any (bytes_eq word) done ≡ false
unfolding IsDistinct
new_behind [] word more h = refl
new_behind (x ∷ xs) word more h =
    ap (λ b. b || list_any (bytes_eq word) xs) (other_way x word (differs_behind x word xs more h.0)) ∙ new_behind xs word more h.1

words_read : (done more : List (List ℕ)) → IsDictionary (done ++ more) → words_in (length more) (done, words_bytes more) ≡ Ok (done ++ more)
words_read done [] h = ap (λ ws. Ok ws) (sym (append-nil done))
words_read done (w ∷ ws) h =
    let word : IsWord w = (after_each done (w ∷ ws) h.each).0 in
    let new = new_behind done w ws h.distinct in
    let joined : (done ++ w ∷ []) ++ ws ≡ done ++ w ∷ ws = append_assoc done (w ∷ []) ws in
    ap (λ o. and_then (taken done o) (words_in (length ws))) (word_again w (words_bytes ws) word.1)
    ∙ ap (λ r. and_then (with_rest (words_bytes ws) r) (words_in (length ws))) (new_as done w word.0 new)
    ∙ words_read (done ++ w ∷ []) ws (subst IsDictionary (sym joined) h)
    ∙ ap (λ all. Ok all) joined

pub dictionary_again : (words : List (List ℕ)) → IsDictionary words → dictionary_in (dictionary_bytes words) ≡ Ok words
unfolding dictionary_in dictionary_bytes
dictionary_again words h =
    let n = length words in
    let rest = words_bytes words in
    let whole = to_le_bytes w32 n ++ rest in
    let few = h.few in
    let fits : n < 2 ^ 32 = omega arith in
    let four : 4 ≤ length whole = omega (arith, length-append (to_le_bytes w32 n) rest, wide_32.size_is n) in
    ap (λ b. cond b (Err Short) (counted_in (count_at whole) (drop 4 whole))) (le-ltb (length whole) 4 four)
    ∙ ap (λ c. counted_in c (drop 4 whole)) (number_front w32 4 wide_32 n rest fits)
    ∙ ap (counted_in n) (number_rest w32 4 wide_32 n rest)
    ∙ ap (λ b. cond b (Err TooMany) (words_in n ([], rest))) (le-ltb most_words n few)
    ∙ words_read [] words h

-- what is spelled as a dictionary is opened as that dictionary
pub opens_spelled : (opened : Result (List (List ℕ)) DicFault) (bytes : List ℕ) (words : List (List ℕ)) → Answers told_by_file opened (dictionary_in bytes)
    → IsDictionary words → bytes ≡ dictionary_bytes words → Answers told_by_file opened (Ok words)
opens_spelled opened bytes words h valid is = subst (Answers told_by_file opened) (ap dictionary_in is ∙ dictionary_again words valid) h

-- ---- the loop that writes

words-append : (words more : List (List ℕ)) → words_bytes (words ++ more) ≡ words_bytes words ++ words_bytes more
words-append [] more = refl
words-append (w ∷ ws) more = ap (λ r. word_bytes w ++ r) (words-append ws more) ∙ sym (append_assoc (word_bytes w) (words_bytes ws) (words_bytes more))

word_get : (words : List (List ℕ)) (k : ℕ) (word : List ℕ) → slice_get words k ≡ Some word → take (suc k) words ≡ take k words ++ word ∷ []
word_get [] k word h = absurd (cc)
word_get (w ∷ ws) zero word h = let same : w ≡ word = cc in ap (λ x. x ∷ []) same
word_get (w ∷ ws) (suc k) word h = ap (λ r. w ∷ r) (word_get ws k word h)

get_word : (words : List (List ℕ)) (k : ℕ) (word : List ℕ) → AllByRecursion IsWord words → slice_get words k ≡ Some word → IsWord word
get_word [] k word h is = absurd (cc)
get_word (w ∷ ws) zero word h is = let same : w ≡ word = cc in let P : List ℕ → Type 0 = λ x. IsWord x in subst P same h.0
get_word (w ∷ ws) (suc k) word h is = get_word ws k word h.1 is

pub word_next : (words : List (List ℕ)) (k : ℕ) → word_in words (k + 1) ≡ slice_get words k
word_next words k =
    let one : k + 1 ≡ suc k = omega arith in
    let back : suc k - 1 ≡ k = omega arith in
    ap (word_in words) one ∙ ap (λ b. cond b None (slice_get words (suc k - 1))) (eqb-suc-zero k) ∙ ap (slice_get words) back

pub word_valid : (words : List (List ℕ)) (k : ℕ) (word : List ℕ) → IsDictionary words → word_in words (k + 1) ≡ Some word → IsWord word
word_valid words k word h is = get_word words k word h.each (sym (word_next words k) ∙ is)

-- one word more is written
pub word_written : (words : List (List ℕ)) (k : ℕ) (word before : List ℕ) → word_in words (k + 1) ≡ Some word
    → (((before ++ words_bytes (take k words)) ++ to_le_bytes w16 (length word)) ++ word) ≡ before ++ words_bytes (take (k + 1) words)
word_written words k word before is =
    let one : k + 1 ≡ suc k = omega arith in
    let more : take (k + 1) words ≡ take k words ++ word ∷ [] = ap (λ n. take n words) one ∙ word_get words k word (sym (word_next words k) ∙ is) in
    append_assoc (before ++ words_bytes (take k words)) (to_le_bytes w16 (length word)) word
    ∙ append_assoc before (words_bytes (take k words)) (word_bytes word)
    ∙ ap (λ r. before ++ (words_bytes (take k words) ++ r)) (sym (append-nil (word_bytes word)))
    ∙ ap (λ r. before ++ r) (sym (words-append (take k words) (word ∷ [])))
    ∙ ap (λ ws. before ++ words_bytes ws) (sym more)

-- ---- codes and words

place_of_get : (p : List ℕ → Bool) (words : List (List ℕ)) → position_or_len p words < length words
    → (word : List ℕ) × (slice_get words (position_or_len p words) ≡ Some word) × (p word ≡ true)
place_of_get p [] h = absurd (omega arith)
place_of_get p (w ∷ ws) h =
    elim (p w) as (λ b. p w ≡ b → cond (not b) (1 + position_or_len p ws) 0 < suc (length ws)
    → (word : List ℕ) × (slice_get (w ∷ ws) (cond (not b) (1 + position_or_len p ws) 0) ≡ Some word) × (p word ≡ true)) [
      | true ↦ λ e g. (w, refl, e)
      | false ↦ λ e g.
          let one : 1 + position_or_len p ws ≡ suc (position_or_len p ws) = omega arith in
          let at = place_of_get p ws (omega arith) in
          (at.0, ap (slice_get (w ∷ ws)) one ∙ at.1, at.2)
    ] refl h

differs_at : (x : List ℕ) (words : List (List ℕ)) (k : ℕ) (word : List ℕ) → AllByRecursion (λ y. bytes_eq x y ≡ false) words → slice_get words k ≡ Some word → bytes_eq x word ≡ false
differs_at x [] k word h is = absurd (cc)
differs_at x (w ∷ ws) zero word h is = let same : w ≡ word = cc in ap (bytes_eq x) (sym same) ∙ h.0
differs_at x (w ∷ ws) (suc k) word h is = differs_at x ws k word h.1 is

get_place : (words : List (List ℕ)) (k : ℕ) (word : List ℕ) → IsDistinct bytes_eq words → slice_get words k ≡ Some word
    → (position_or_len (bytes_eq word) words ≡ k) × (k < length words)
unfolding IsDistinct
get_place [] k word h is = absurd (cc)
get_place (w ∷ ws) zero word h is =
    let same : w ≡ word = cc in
    (ap (λ b. cond (not b) (1 + position_or_len (bytes_eq word) ws) 0) (ap (bytes_eq word) same ∙ bytes_same word), omega arith)
get_place (w ∷ ws) (suc k) word h is =
    let at = get_place ws k word h.1 is in
    let other = other_way w word (differs_at w ws k word h.0 is) in
    let one : 1 + position_or_len (bytes_eq word) ws ≡ suc k = omega (arith, at.0) in
    (ap (λ b. cond (not b) (1 + position_or_len (bytes_eq word) ws) 0) other ∙ one, omega (arith, at.1))

some_place : (b : Bool) (n code : ℕ) → option_map (λ place. place + 1) (cond b (Some n) None) ≡ Some code → (b ≡ true) × (n + 1 ≡ code)
some_place true n code h = let same : n + 1 ≡ code = cc in (refl, same)
some_place false n code h = absurd (cc)

pub word_of_code : (words : List (List ℕ)) (word : List ℕ) (code : ℕ) → code_in words word ≡ Some code → word_in words code ≡ Some word
word_of_code words word code h =
    let place = position_or_len (bytes_eq word) words in
    let two = some_place (nat_lt place (length words)) place code h in
    let at = place_of_get (bytes_eq word) words (ltb-true place (length words) two.0) in
    let same : word ≡ at.0 = (bytes_eq-Decides word at.0).0 at.2 in
    ap (word_in words) (sym two.1) ∙ word_next words place ∙ at.1 ∙ ap (λ w. Some w) (sym same)

pub code_of_word : (words : List (List ℕ)) (word : List ℕ) (code : ℕ) → IsDictionary words → word_in words code ≡ Some word → code_in words word ≡ Some code
code_of_word words word zero h is = absurd (cc)
code_of_word words word (suc k) h is =
    let one : k + 1 ≡ suc k = omega arith in
    let at = get_place words k word h.distinct (sym (word_next words k) ∙ ap (word_in words) one ∙ is) in
    ap (λ n. option_map (λ place. place + 1) (cond (nat_lt n (length words)) (Some n) None)) at.0
    ∙ ap (λ b. option_map (λ place. place + 1) (cond b (Some k) None)) (lt-ltb k (length words) at.1)
    ∙ ap (λ n. Some n) one

-- ---- the words of a column

choice_longer : (b : Bool) (words : List (List ℕ)) (word : List ℕ) → length (cond b words (words ++ word ∷ [])) ≤ length words + 1
choice_longer true words word = omega arith
choice_longer false words word = omega (arith, length-append words (word ∷ []))

seen_from : (done words : List (List ℕ)) → IsDictionary done → AllByRecursion IsWord words → length done + length words ≤ most_words → IsDictionary (fold with_word done words)
seen_from done [] h each room = h
seen_from done (w ∷ ws) h each room =
    let longer = choice_longer (list_any (bytes_eq w) done) done w in
    seen_from (with_word done w) ws (dictionary_with done w h each.0 (omega arith)) each.1 (omega arith)

pub seen_dictionary : (words : List (List ℕ)) → AllByRecursion IsWord words → length words ≤ most_words → IsDictionary (first_seen words)
seen_dictionary words each few = seen_from [] words no_words each (omega arith)

rest_as : (r : List ℕ) (t : Result (List (List ℕ)) DicFault) (more : List (List ℕ)) (rest : List ℕ) → with_rest r t ≡ Ok (more, rest) → t ≡ Ok more
rest_as r (Ok words) more rest h = let pair : (words, r) ≡ (more, rest) = cc in ap (λ (p : List (List ℕ) × List ℕ). Ok p.0) pair
rest_as r (Err fault) more rest h = absurd (cc)

-- a word that is read makes one more
pub longer_next : (words : List (List ℕ)) (bytes : List ℕ) (more : List (List ℕ)) (rest : List ℕ) → next_in words bytes ≡ Ok (more, rest) → length more ≡ length words + 1
longer_next words bytes more rest h = by (word_at bytes) h
  where
    by : (o : Option (List ℕ × List ℕ)) → taken words o ≡ Ok (more, rest) → length more ≡ length words + 1
    by None g = absurd (cc)
    by (Some (word, behind)) g = longer_as words word more (rest_as behind (taken_as words word) more rest g)

pub all_written : (words : List (List ℕ)) (k : ℕ) → length words ≤ k → to_le_bytes w32 (length words) ++ words_bytes (take k words) ≡ dictionary_bytes words
unfolding dictionary_bytes
all_written words k h = ap (λ ws. to_le_bytes w32 (length words) ++ words_bytes ws) (take_all k words h)
