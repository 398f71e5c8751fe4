-- What a cursor has left, and its next run.
use Rattle.std.proofs.Common.{◌≡◌, ℕ, suc, ◌+◌, ◌-◌, ◌<◌, ◌≤◌, List, [], ◌∷◌, ◌++◌, length, take, drop, get_or, Some, None, refl, sym, ap, ◌∙◌, arith, append_assoc}
use Rattle.std.proofs.lemmas.List.{length-map, drop_more, take_rest, append-nil}
use Rattle.std.proofs.lemmas.Bool.{ne_eqb}
use Rattle.wah_words.specs.Places.{places}
use Rattle.wah_words.specs.Spelling.{Word, literal, fill, words_of, word_values, told, IsProper, IsCanonical}
use Rattle.wah_words.specs.Bytes.{decoded, decoded_all, IsLeft}
use Rattle.wah_words.specs.Left.{Left, run_values, run_of_word, IsRun, Comes}
use Rattle.wah_words.specs.declared.run.Run.TheVariants.{Tail}
use Rattle.wah_words.proofs.PlacesLemmas.{length-places}
use Rattle.wah_words.proofs.SpellingLemmas.{told-cons, words_of_told, active_words}

abbrev pub left : List ℕ → ℕ → ℕ → Left
left items active count = record { values = told (decoded_all items) ++ places count active; words = length items + active_words count }

pub run_values-of_word : (w : Word) → run_values (run_of_word w) ≡ word_values w
unfolding word_values
run_values-of_word (literal g) = refl
run_values-of_word (fill b n) = refl

is_run : (w : Word) (new : Left) → IsProper w → IsRun (run_of_word w) new
is_run (literal g) new h = h
is_run (fill b n) new h = h

pub words_left : (items : List ℕ) (active count : ℕ) → IsLeft items active count → (left items active count).words ≡ words_of (left items active count).values
words_left items active count h =
    let few : length (places count active) < 31 = rw (length-places count active) h.rest in
    sym (words_of_told (decoded_all items) (places count active) h.canonical few ∙ rw (length-places count active, length-map items decoded) refl)

pub comes_word : (items : List ℕ) (y : ℕ) (ys : List ℕ) (active count : ℕ) → IsLeft items active count → items ≡ y ∷ ys → Comes (left items active count) (Some (run_of_word (decoded y))) (left ys active count)
comes_word items y ys active count h e =
    let canonical : IsCanonical (decoded y ∷ decoded_all ys) = rw e at h.canonical in
    let p = places count active in
    let values : told (decoded y ∷ decoded_all ys) ++ p ≡ run_values (run_of_word (decoded y)) ++ (told (decoded_all ys) ++ p) = ap (λ l. l ++ p) (told-cons (decoded y) (decoded_all ys)) ∙ append_assoc (word_values (decoded y)) (told (decoded_all ys)) p ∙ ap (λ l. l ++ (told (decoded_all ys) ++ p)) (sym (run_values-of_word (decoded y))) in
    let count_words : suc (length ys) + active_words count ≡ length ys + active_words count + 1 = omega arith in
    rw e (values, count_words, is_run (decoded y) (left ys active count) canonical.0)

first_of : (items : List ℕ) (d : ℕ) → 1 ≤ length items → items ≡ get_or items 0 d ∷ take (length items - 1) (drop 1 items)
first_of items d h = drop_more items 0 d (omega arith) ∙ ap (λ l. get_or items 0 d ∷ l) (sym (take_rest items 1))

pub comes_first : (items : List ℕ) (active count d : ℕ) → IsLeft items active count → 1 ≤ length items → Comes (left items active count) (Some (run_of_word (decoded (get_or items 0 d)))) (left (take (length items - 1) (drop 1 items)) active count)
comes_first items active count d h some = comes_word items (get_or items 0 d) (take (length items - 1) (drop 1 items)) active count h (first_of items d some)

pub comes_tail : (items : List ℕ) (active count : ℕ) → IsLeft items active count → length items < 1 → (count ≡ 0 → ⊥) → Comes (left items active count) (Some (Tail active count)) (left items 0 0)
unfolding told places
comes_tail [] active count h none some =
    (sym (append-nil (places count active)), rw (ne_eqb count 0 some) refl, (omega arith, h.rest, h.active_fits, refl, refl))
comes_tail (x ∷ xs) active count h none some = absurd (omega arith)

pub comes_none : (items : List ℕ) (active count : ℕ) → length items < 1 → count ≡ 0 → Comes (left items active count) None (left items active count)
unfolding told places
comes_none [] active count none e = rw e (refl, refl, refl)
comes_none (x ∷ xs) active count none e = absurd (omega arith)

-- a list with a group has a word
pub some_word : (items : List ℕ) (active count : ℕ) → IsLeft items active count → 31 ≤ length (left items active count).values → 1 ≤ length items
unfolding told
some_word [] active count h some = absurd (omega (arith, h.rest, length-places count active))
some_word (x ∷ xs) active count h some = omega arith

pub comes_split : (items front back : List ℕ) (active count d : ℕ) → IsLeft items active count → 1 ≤ length items → front ≡ take 1 items → back ≡ drop 1 items → Comes (left items active count) (Some (run_of_word (decoded (get_or front 0 d)))) (left back active count)
comes_split [] front back active count d h some ef eb = absurd (omega arith)
comes_split (x ∷ xs) front back active count d h some ef eb = rw (ef, eb) (comes_word (x ∷ xs) x xs active count h refl)
