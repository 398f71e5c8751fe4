-- Reading words from bytes: the first wrong one, and none where they are canonical.
use Rattle.std.proofs.Common.{◌≡◌, ℕ, suc, ◌+◌, ◌-◌, ◌*◌, ◌%◌, ◌<◌, ◌≤◌, Bool, true, false, cond, eqb, leb, ◌||◌, List, [], ◌∷◌, ◌++◌, length, drop, Option, Some, None, refl, sym, ap, ◌∙◌, arith, append_assoc, inl, inr}
use Rattle.std.specs.Option.{option_map}
use Rattle.std.proofs.lemmas.List.{length-map, append-nil, drop-drop, map-append}
use Rattle.std.proofs.lemmas.Bool.{cases_lt, or_parts, eqb-false, lt-ltb, le-ltb, ne_eqb}
use Rattle.wah_words.specs.Spelling.{Word, literal, fill, word_groups, groups_told, IsProper, AreApart, IsApartFrom, IsCanonical}
use Rattle.wah_words.specs.Bytes.{decoded, decoded_all, is_improper, are_joined, first_wrong, number_at, numbers_at}
use Rattle.wah_words.proofs.SpellingLemmas.{groups_told-append, groups_told-one}
use Rattle.wah_words.proofs.WordsLemmas.{last_of, decoded_all-push}

abbrev pub is_wrong : Word → Word → Bool
is_wrong last w = is_improper w || are_joined last w

parts_of : (t : Bool) (o : Option ℕ) → cond t (Some 0) (option_map (λ k. suc k) o) ≡ None → (t ≡ false) × (o ≡ None)
parts_of true o e = absurd cc
parts_of false None e = (refl, refl)
parts_of false (Some k) e = absurd cc

right_parts : (d w : Word) (ws : List Word) → first_wrong d (w ∷ ws) ≡ None → (is_wrong d w ≡ false) × (first_wrong w ws ≡ None)
right_parts d w ws e = parts_of (is_wrong d w) (first_wrong w ws) e

pub right_push : (d : Word) (ws : List Word) (w : Word) → first_wrong d ws ≡ None → is_wrong (last_of d ws) w ≡ false → first_wrong d (ws ++ w ∷ []) ≡ None
right_push d [] w h e = rw e refl
right_push d (v ∷ ws) w h e =
    let p = right_parts d v ws h in
    rw (p.0, right_push v ws w p.1 e) refl

pub wrong_push : (d : Word) (ws : List Word) (w : Word) (vs : List Word) → first_wrong d ws ≡ None → is_wrong (last_of d ws) w ≡ true → first_wrong d (ws ++ w ∷ vs) ≡ Some (length ws)
wrong_push d [] w vs h e = rw e refl
wrong_push d (v ∷ ws) w vs h e =
    let p = right_parts d v ws h in
    rw (p.0, wrong_push v ws w vs p.1 e) refl

proper_decoded : (n : ℕ) → is_improper (decoded n) ≡ false → IsProper (decoded n)
proper_decoded n e =
    elim (cases_lt n 2147483648) [
      | inl low ↦
          (let word : decoded n ≡ literal n = rw (lt-ltb n 2147483648 low) refl in
          let e' : is_improper (literal n) ≡ false = rw word at e in
          let p = or_parts (eqb n 0) (eqb n 2147483647) e' in
          let not_zero = eqb-false n 0 p.0 in
          let not_ones = eqb-false n 2147483647 p.1 in
          rw word (omega arith, omega arith))
      | inr high ↦
          (let word : decoded n ≡ fill (leb 3221225472 n) (n % 1073741824) = rw (le-ltb n 2147483648 high) refl in
          let e' : is_improper (fill (leb 3221225472 n) (n % 1073741824)) ≡ false = rw word at e in
          let some = eqb-false (n % 1073741824) 0 e' in
          rw word (omega arith))
    ]

apart_unless_joined : (v w : Word) → are_joined v w ≡ false → AreApart v w
apart_unless_joined (literal h) w e = tt
apart_unless_joined (fill b n) (literal g) e = tt
apart_unless_joined (fill true n) (fill true m) e = absurd cc
apart_unless_joined (fill true n) (fill false m) e = λ t. cc
apart_unless_joined (fill false n) (fill true m) e = λ t. cc
apart_unless_joined (fill false n) (fill false m) e = absurd cc

canonical_after : (d : Word) (ns : List ℕ) → first_wrong d (decoded_all ns) ≡ None → IsCanonical (decoded_all ns) × IsApartFrom d (decoded_all ns)
canonical_after d [] e = (tt, tt)
canonical_after d (n ∷ ns) e =
    let p = right_parts d (decoded n) (decoded_all ns) e in
    let q = or_parts (is_improper (decoded n)) (are_joined d (decoded n)) p.0 in
    let rest = canonical_after (decoded n) ns p.1 in
    ((proper_decoded n q.0, rest.1, rest.0), apart_unless_joined d (decoded n) q.1)

-- words of which none is wrong are canonical
pub canonical_right : (d : Word) (ns : List ℕ) → first_wrong d (decoded_all ns) ≡ None → IsCanonical (decoded_all ns)
canonical_right d ns e = (canonical_after d ns e).0

proper_right : (w : Word) → IsProper w → is_improper w ≡ false
proper_right (literal g) h = rw (ne_eqb g 0 (λ e. omega arith), ne_eqb g 2147483647 (λ e. omega arith)) refl
proper_right (fill b n) h = ne_eqb n 0 (λ e. omega arith)

apart_right : (v w : Word) → AreApart v w → are_joined v w ≡ false
apart_right (literal h) w a = refl
apart_right (fill b n) (literal g) a = refl
apart_right (fill true n) (fill true m) a = absurd (a refl)
apart_right (fill true n) (fill false m) a = refl
apart_right (fill false n) (fill true m) a = refl
apart_right (fill false n) (fill false m) a = absurd (a refl)

-- and none of canonical words is wrong
pub right_canonical : (d : Word) (ws : List Word) → IsCanonical ws → IsApartFrom d ws → first_wrong d ws ≡ None
right_canonical d [] h a = refl
right_canonical d (w ∷ ws) h a = rw (proper_right w h.0, apart_right d w a, right_canonical w ws h.2 h.1) refl

-- ---- the numbers at the front of bytes

pub numbers_more : (n k : ℕ) (bytes : List ℕ) → k < n → numbers_at (n - k) bytes ≡ number_at bytes ∷ numbers_at (n - (k + 1)) (drop 4 bytes)
unfolding numbers_at
numbers_more n k bytes h = let e : n - k ≡ suc (n - (k + 1)) = omega arith in rw e refl

pub numbers_done : (n k : ℕ) (items bytes all : List ℕ) → k ≡ n → items ++ numbers_at (n - k) bytes ≡ all → items ≡ all
unfolding numbers_at
numbers_done n k items bytes all h e =
    let none : n - k ≡ 0 = omega arith in
    sym (append-nil items) ∙ ap (λ m. items ++ numbers_at m bytes) (sym none) ∙ e

pub items_more : (n k : ℕ) (items rest : List ℕ) (word : ℕ) (after all : List ℕ) → k < n → word ≡ number_at rest → after ≡ drop 4 rest → items ++ numbers_at (n - k) rest ≡ all → (items ++ word ∷ []) ++ numbers_at (n - (k + 1)) after ≡ all
items_more n k items rest word after all h w a e =
    rw (w, a) (append_assoc items (number_at rest ∷ []) (numbers_at (n - (k + 1)) (drop 4 rest)) ∙ ap (λ l. items ++ l) (sym (numbers_more n k rest h)) ∙ e)

-- ---- one more word

pub right_more : (items : List ℕ) (word last : ℕ) → first_wrong (literal 0) (decoded_all items) ≡ None → last_of (literal 0) (decoded_all items) ≡ decoded last → is_wrong (decoded last) (decoded word) ≡ false → first_wrong (literal 0) (decoded_all (items ++ word ∷ [])) ≡ None
right_more items word last h l e =
    rw (decoded_all-push items word) (right_push (literal 0) (decoded_all items) (decoded word) h (rw l e))

pub wrong_more : (items all : List ℕ) (word last : ℕ) (others : List ℕ) → first_wrong (literal 0) (decoded_all items) ≡ None → last_of (literal 0) (decoded_all items) ≡ decoded last → is_wrong (decoded last) (decoded word) ≡ true → items ++ word ∷ others ≡ all → first_wrong (literal 0) (decoded_all all) ≡ Some (length items)
wrong_more items all word last others h l e split =
    let words : decoded_all all ≡ decoded_all items ++ decoded word ∷ decoded_all others = ap decoded_all (sym split) ∙ map-append decoded items (word ∷ others) in
    rw words (wrong_push (literal 0) (decoded_all items) (decoded word) (decoded_all others) h (rw l e)) ∙ ap (λ k. Some k) (length-map items decoded)

pub groups_more : (items : List ℕ) (word : ℕ) → groups_told (decoded_all (items ++ word ∷ [])) ≡ groups_told (decoded_all items) + word_groups (decoded word)
groups_more items word = rw (decoded_all-push items word) (groups_told-append (decoded_all items) (decoded word ∷ []) ∙ ap (λ k. groups_told (decoded_all items) + k) (groups_told-one (decoded word)))

pub word_groups_le : (n : ℕ) → word_groups (decoded n) ≤ 1073741824
word_groups_le n =
    elim (cases_lt n 2147483648) [
      | inl low ↦ rw (lt-ltb n 2147483648 low) (omega arith)
      | inr high ↦ rw (le-ltb n 2147483648 high) (omega arith)
    ]

pub rest_more : (k : ℕ) (bytes : List ℕ) → drop 4 (drop (4 * k) bytes) ≡ drop (4 * (k + 1)) bytes
rest_more k bytes = drop-drop 4 (4 * k) bytes ∙ (let e : 4 * k + 4 ≡ 4 * (k + 1) = omega arith in ap (λ n. drop n bytes) e)
