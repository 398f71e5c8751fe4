-- Each list has one spelling, and each canonical spelling one list.
use Rattle.std.proofs.Common.{◌≡◌, ℕ, zero, suc, ◌+◌, ◌*◌, ◌/◌, ◌%◌, ◌<◌, ◌≤◌, Bool, true, false, cond, eqb, List, [], ◌∷◌, ◌++◌, length, take, drop, replicate, refl, sym, ap, ◌∙◌, arith, length-append, append_assoc, lit<, inl, inr, rules, tests}
use Rattle.std.specs.List.{flat_map}
use Rattle.std.proofs.lemmas.List.{length-replicate, append-nil, take_at, drop_at, take-append-drop, length-drop, length-take-le, replicate-append-replicate, drop-drop}
use Rattle.std.proofs.lemmas.List.Concat.{flat_map-append}
use Rattle.std.proofs.lemmas.Bool.{cases_eq, ne_eqb}
use Rattle.wah_words.specs.Places.{places, number}
use Rattle.wah_words.specs.Spelling.{Word, literal, fill, uniform, group_word, same_value, before, spelled, groups_in, regular_words, rest_of, words_of, word_values, told, word_groups, groups_told, IsProper, IsApartFrom, IsCanonical}
use Rattle.wah_words.proofs.PlacesLemmas.{length-places, number_below, number-places_below, number-replicate_false, number-replicate_true, places-zeros, places-ones, places-of_number}

-- ---- told

pub told-append : (vs ws : List Word) → told (vs ++ ws) ≡ told vs ++ told ws
unfolding told
told-append vs ws = flat_map-append word_values vs ws

pub told-cons : (w : Word) (ws : List Word) → told (w ∷ ws) ≡ word_values w ++ told ws
unfolding told
told-cons w ws = refl

pub told-one : (w : Word) → told (w ∷ []) ≡ word_values w
unfolding told
told-one w = append-nil (word_values w)

pub groups_told-append : (vs ws : List Word) → groups_told (vs ++ ws) ≡ groups_told vs + groups_told ws
unfolding groups_told
groups_told-append [] ws = omega arith
groups_told-append (v ∷ vs) ws = omega (arith, groups_told-append vs ws)

pub groups_told-one : (w : Word) → groups_told (w ∷ []) ≡ word_groups w
unfolding groups_told
groups_told-one w = omega arith

pub length-word_values : (w : Word) → length (word_values w) ≡ 31 * word_groups w
unfolding word_values
length-word_values (literal g) = length-places 31 g
length-word_values (fill b n) = length-replicate (31 * n) b

pub length-told : (ws : List Word) → length (told ws) ≡ 31 * groups_told ws
unfolding told groups_told
length-told [] = refl
length-told (w ∷ ws) = length-append (word_values w) (told ws) ∙ omega (arith, length-word_values w, length-told ws)

-- each word of canonical words stands for a group at least
pub length_le-groups_told : (ws : List Word) → IsCanonical ws → length ws ≤ groups_told ws
unfolding groups_told
length_le-groups_told [] h = omega arith
length_le-groups_told (literal g ∷ ws) h = omega (arith, length_le-groups_told ws h.2)
length_le-groups_told (fill b n ∷ ws) h = omega (arith, length_le-groups_told ws h.2, h.0)

-- ---- groups of what words stand for

abbrev pub word_group_list : Word → List ℕ
word_group_list (literal g) = g ∷ []
word_group_list (fill b n) = replicate n (uniform b)

number-uniform : (b : Bool) → number (replicate 31 b) ≡ uniform b
number-uniform false = number-replicate_false 31
number-uniform true = omega (arith, number-replicate_true 31)

group_first : (n : ℕ) (front v : List Bool) → length front ≡ 31 → groups_in (suc n) (front ++ v) ≡ number front ∷ groups_in n v
unfolding groups_in
group_first n front v h = rw (take_at front v 31 h, drop_at front v 31 h) refl

groups_fill : (b : Bool) (k n : ℕ) (v : List Bool) → groups_in (k + n) (replicate (31 * k) b ++ v) ≡ replicate k (uniform b) ++ groups_in n v
groups_fill b zero n v = let e : 0 + n ≡ n = omega arith in rw e refl
groups_fill b (suc k) n v =
    let more : 31 * suc k ≡ 31 + 31 * k = omega arith in
    let count : suc k + n ≡ suc (k + n) = omega arith in
    let regroup : replicate (31 * suc k) b ++ v ≡ replicate 31 b ++ (replicate (31 * k) b ++ v) = ap (λ m. replicate m b ++ v) more ∙ ap (λ l. l ++ v) (sym (replicate-append-replicate 31 (31 * k) b)) ∙ append_assoc (replicate 31 b) (replicate (31 * k) b) v in
    rw (regroup, count, group_first (k + n) (replicate 31 b) (replicate (31 * k) b ++ v) (length-replicate 31 b), number-uniform b, groups_fill b k n v) refl

groups_word : (w : Word) (n : ℕ) (v : List Bool) → IsProper w → groups_in (word_groups w + n) (word_values w ++ v) ≡ word_group_list w ++ groups_in n v
unfolding word_values
groups_word (literal g) n v h =
    let count : 1 + n ≡ suc n = omega arith in
    rw (count, group_first n (places 31 g) v (length-places 31 g), number-places_below 31 g (omega arith)) refl
groups_word (fill b k) n v h = groups_fill b k n v

groups_of_told : (ws : List Word) (v : List Bool) → IsCanonical ws → groups_in (groups_told ws) (told ws ++ v) ≡ flat_map word_group_list ws
unfolding told groups_told groups_in
groups_of_told [] v h = refl
groups_of_told (w ∷ ws) v h = rw (append_assoc (word_values w) (told ws) v, groups_word w (groups_told ws) (told ws ++ v) h.0, groups_of_told ws v h.2) refl

-- ---- spelling what canonical words stand for

group_word-mixed : (g : ℕ) → 0 < g → g < 2147483647 → group_word g ≡ literal g
group_word-mixed g low high =
    let not_zero : eqb g 0 ≡ false = search (rules, tests) in
    let not_ones : eqb g 2147483647 ≡ false = search (rules, tests) in
    rw (not_zero, not_ones) refl

group_word-uniform : (b : Bool) → group_word (uniform b) ≡ fill b 1
group_word-uniform true = refl
group_word-uniform false = refl

same_value_self : (b : Bool) → same_value b b ≡ true
same_value_self true = refl
same_value_self false = refl

same_value-apart : (b c : Bool) → (b ≡ c → ⊥) → same_value b c ≡ false
same_value-apart true true h = absurd (h refl)
same_value-apart true false h = refl
same_value-apart false true h = refl
same_value-apart false false h = absurd (h refl)

before-apart : (w : Word) (ws : List Word) → IsApartFrom w ws → before w ws ≡ w ∷ ws
before-apart (literal g) ws h = refl
before-apart (fill b n) [] h = refl
before-apart (fill b n) (literal g ∷ ws) h = refl
before-apart (fill b n) (fill c m ∷ ws) h = rw (same_value-apart b c h) refl

spelled_fill : (b : Bool) (n : ℕ) (gs : List ℕ) (ws : List Word) → IsApartFrom (fill b 1) ws → spelled gs ≡ ws → spelled (replicate (suc n) (uniform b) ++ gs) ≡ fill b (suc n) ∷ ws
spelled_fill b zero gs ws h e = rw (group_word-uniform b, e) (before-apart (fill b 1) ws h)
spelled_fill b (suc n) gs ws h e =
    let count : 1 + suc n ≡ suc (suc n) = omega arith in
    ap (before (group_word (uniform b))) (spelled_fill b n gs ws h e) ∙ rw (group_word-uniform b, same_value_self b) (ap (λ k. fill b k ∷ ws) count)

apart_any_count : (b : Bool) (n m : ℕ) (ws : List Word) → IsApartFrom (fill b n) ws → IsApartFrom (fill b m) ws
apart_any_count b n m [] h = tt
apart_any_count b n m (literal g ∷ ws) h = tt
apart_any_count b n m (fill c k ∷ ws) h = h

spelled_word : (w : Word) (gs : List ℕ) (ws : List Word) → IsProper w → IsApartFrom w ws → spelled gs ≡ ws → spelled (word_group_list w ++ gs) ≡ w ∷ ws
spelled_word (literal g) gs ws p a e = rw (group_word-mixed g p.0 p.1, e) refl
spelled_word (fill b zero) gs ws p a e = absurd (omega arith)
spelled_word (fill b (suc n)) gs ws p a e = spelled_fill b n gs ws (apart_any_count b (suc n) 1 ws a) e

spelled_canonical : (ws : List Word) → IsCanonical ws → spelled (flat_map word_group_list ws) ≡ ws
spelled_canonical [] h = refl
spelled_canonical (w ∷ ws) h = spelled_word w (flat_map word_group_list ws) ws h.0 h.1 (spelled_canonical ws h.2)

-- ---- the words and the rest of what canonical words and a rest stand for

length-vector : (ws : List Word) (rest : List Bool) → length (told ws ++ rest) ≡ 31 * groups_told ws + length rest
length-vector ws rest = length-append (told ws) rest ∙ omega (arith, length-told ws)

whole_groups : (g r n : ℕ) → r < 31 → n ≡ 31 * g + r → n / 31 ≡ g
whole_groups g r n h e = omega arith

pub rest_length : (g r n : ℕ) → r < 31 → n ≡ 31 * g + r → n % 31 ≡ r
rest_length g r n h e = omega arith

pub regular_words_told : (ws : List Word) (rest : List Bool) → IsCanonical ws → length rest < 31 → regular_words (told ws ++ rest) ≡ ws
unfolding regular_words
regular_words_told ws rest h few =
    let count : length (told ws ++ rest) / 31 ≡ groups_told ws = whole_groups (groups_told ws) (length rest) (length (told ws ++ rest)) few (length-vector ws rest) in
    rw (count, groups_of_told ws rest h) (spelled_canonical ws h)

pub rest_of_told : (ws : List Word) (rest : List Bool) → length rest < 31 → rest_of (told ws ++ rest) ≡ rest
unfolding rest_of
rest_of_told ws rest few =
    let count : length (told ws ++ rest) / 31 ≡ groups_told ws = whole_groups (groups_told ws) (length rest) (length (told ws ++ rest)) few (length-vector ws rest) in
    rw count (drop_at (told ws) rest (31 * groups_told ws) (length-told ws))

abbrev pub active_words : ℕ → ℕ
active_words r = cond (eqb r 0) 0 1

pub words_of_told : (ws : List Word) (rest : List Bool) → IsCanonical ws → length rest < 31 → words_of (told ws ++ rest) ≡ length ws + active_words (length rest)
unfolding words_of
words_of_told ws rest h few =
    let left : length (told ws ++ rest) % 31 ≡ length rest = rest_length (groups_told ws) (length rest) (length (told ws ++ rest)) few (length-vector ws rest) in
    rw (left, regular_words_told ws rest h few) refl

pub words_of-nil : words_of [] ≡ 0
unfolding told
words_of-nil = words_of_told [] [] tt (lit< tt)

-- ---- the words of a list are canonical and stand for it

pub apart_literal : (g : ℕ) (ws : List Word) → IsApartFrom (literal g) ws
apart_literal g [] = tt
apart_literal g (w ∷ ws) = tt

canonical_before : (w : Word) (ws : List Word) → IsProper w → IsCanonical ws → IsCanonical (before w ws)
canonical_before (literal g) ws p h = (p, apart_literal g ws, h)
canonical_before (fill b n) [] p h = (p, tt, tt)
canonical_before (fill b n) (literal g ∷ ws) p h = (p, tt, h)
canonical_before (fill true n) (fill true m ∷ ws) p h = (omega arith, apart_any_count true m (n + m) ws h.1, h.2)
canonical_before (fill true n) (fill false m ∷ ws) p h = (p, λ e. cc, h)
canonical_before (fill false n) (fill true m ∷ ws) p h = (p, λ e. cc, h)
canonical_before (fill false n) (fill false m ∷ ws) p h = (omega arith, apart_any_count false m (n + m) ws h.1, h.2)

fills_joined : (b : Bool) (n m : ℕ) (v : List Bool) → word_values (fill b (n + m)) ++ v ≡ word_values (fill b n) ++ (word_values (fill b m) ++ v)
unfolding word_values
fills_joined b n m v =
    let e : 31 * (n + m) ≡ 31 * n + 31 * m = omega arith in
    ap (λ k. replicate k b ++ v) e ∙ ap (λ l. l ++ v) (sym (replicate-append-replicate (31 * n) (31 * m) b)) ∙ append_assoc (replicate (31 * n) b) (replicate (31 * m) b) v

told_before : (w : Word) (ws : List Word) → told (before w ws) ≡ word_values w ++ told ws
unfolding told
told_before (literal g) ws = refl
told_before (fill b n) [] = refl
told_before (fill b n) (literal g ∷ ws) = refl
told_before (fill true n) (fill true m ∷ ws) = fills_joined true n m (told ws)
told_before (fill true n) (fill false m ∷ ws) = refl
told_before (fill false n) (fill true m ∷ ws) = refl
told_before (fill false n) (fill false m ∷ ws) = fills_joined false n m (told ws)

groups_told_before : (w : Word) (ws : List Word) → groups_told (before w ws) ≡ word_groups w + groups_told ws
unfolding groups_told
groups_told_before (literal g) ws = refl
groups_told_before (fill b n) [] = refl
groups_told_before (fill b n) (literal g ∷ ws) = refl
groups_told_before (fill true n) (fill true m ∷ ws) = omega arith
groups_told_before (fill true n) (fill false m ∷ ws) = refl
groups_told_before (fill false n) (fill true m ∷ ws) = refl
groups_told_before (fill false n) (fill false m ∷ ws) = omega arith

group_word_proper : (g : ℕ) → g < 2147483648 → IsProper (group_word g)
group_word_proper g h =
    elim (cases_eq g 0) [
      | inl e ↦ rw e (lit< tt)
      | inr not_zero ↦
          elim (cases_eq g 2147483647) [
            | inl e ↦ rw e (lit< tt)
            | inr not_ones ↦ rw (group_word-mixed g (omega arith) (omega arith)) (omega arith, omega arith)
          ]
    ]

group_word_values : (g : ℕ) → g < 2147483648 → word_values (group_word g) ≡ places 31 g
unfolding word_values
group_word_values g h =
    elim (cases_eq g 0) [
      | inl e ↦ rw e (sym (places-zeros 31))
      | inr not_zero ↦
          elim (cases_eq g 2147483647) [
            | inl e ↦ rw e (sym (places-ones 31 2147483647 refl))
            | inr not_ones ↦ rw (group_word-mixed g (omega arith) (omega arith)) refl
          ]
    ]

group_word_groups : (g : ℕ) → word_groups (group_word g) ≡ 1
group_word_groups g =
    elim (cases_eq g 0) [
      | inl e ↦ rw e refl
      | inr not_zero ↦
          elim (cases_eq g 2147483647) [
            | inl e ↦ rw e refl
            | inr not_ones ↦ rw (ne_eqb g 0 not_zero, ne_eqb g 2147483647 not_ones) refl
          ]
    ]

first_group : (v : List Bool) → 31 ≤ length v → length (take 31 v) ≡ 31
first_group v h = length-take-le 31 v h

first_group_fits : (v : List Bool) → 31 ≤ length v → number (take 31 v) < 2147483648
first_group_fits v h = let below = number_below (take 31 v) in rw (first_group v h) at below

rest_long : (n : ℕ) (v : List Bool) → 31 * suc n ≤ length v → 31 * n ≤ length (drop 31 v)
rest_long n v h = rw (length-drop 31 v) (omega arith)

canonical_spelled : (n : ℕ) (v : List Bool) → 31 * n ≤ length v → IsCanonical (spelled (groups_in n v))
unfolding groups_in
canonical_spelled zero v h = tt
canonical_spelled (suc n) v h =
    let long : 31 ≤ length v = omega arith in
    canonical_before (group_word (number (take 31 v))) (spelled (groups_in n (drop 31 v))) (group_word_proper (number (take 31 v)) (first_group_fits v long)) (canonical_spelled n (drop 31 v) (rest_long n v h))

told_spelled : (n : ℕ) (v : List Bool) → 31 * n ≤ length v → told (spelled (groups_in n v)) ++ drop (31 * n) v ≡ v
unfolding groups_in told
told_spelled zero v h = refl
told_spelled (suc n) v h =
    let long : 31 ≤ length v = omega arith in
    let w = group_word (number (take 31 v)) in
    let ws = spelled (groups_in n (drop 31 v)) in
    let more : 31 * suc n ≡ 31 + 31 * n = omega arith in
    let front : word_values w ≡ take 31 v = group_word_values (number (take 31 v)) (first_group_fits v long) ∙ places-of_number 31 (number (take 31 v)) (take 31 v) (first_group v long) refl in
    let back : drop (31 * suc n) v ≡ drop (31 * n) (drop 31 v) = ap (λ k. drop k v) more ∙ sym (drop-drop (31 * n) 31 v) in
    let start : told (before w ws) ++ drop (31 * suc n) v ≡ (word_values w ++ told ws) ++ drop (31 * n) (drop 31 v) = ap (λ l. l ++ drop (31 * suc n) v) (told_before w ws) ∙ ap (λ l. (word_values w ++ told ws) ++ l) back in
    start ∙ append_assoc (word_values w) (told ws) (drop (31 * n) (drop 31 v)) ∙ ap (λ l. word_values w ++ l) (told_spelled n (drop 31 v) (rest_long n v h)) ∙ ap (λ l. l ++ drop 31 v) front ∙ take-append-drop 31 v

groups_told_spelled : (n : ℕ) (v : List Bool) → groups_told (spelled (groups_in n v)) ≡ n
unfolding groups_in groups_told
groups_told_spelled zero v = refl
groups_told_spelled (suc n) v = groups_told_before (group_word (number (take 31 v))) (spelled (groups_in n (drop 31 v))) ∙ omega (arith, group_word_groups (number (take 31 v)), groups_told_spelled n (drop 31 v))

whole_le : (n : ℕ) → 31 * (n / 31) ≤ n
whole_le n = omega arith

pub canonical_regular : (v : List Bool) → IsCanonical (regular_words v)
unfolding regular_words
canonical_regular v = canonical_spelled (length v / 31) v (whole_le (length v))

pub told_regular : (v : List Bool) → told (regular_words v) ++ rest_of v ≡ v
unfolding regular_words rest_of
told_regular v = told_spelled (length v / 31) v (whole_le (length v))

pub groups_told_regular : (v : List Bool) → groups_told (regular_words v) ≡ length v / 31
unfolding regular_words
groups_told_regular v = groups_told_spelled (length v / 31) v

pub length-rest_of : (v : List Bool) → length (rest_of v) ≡ length v % 31
unfolding rest_of
length-rest_of v = length-drop (31 * (length v / 31)) v ∙ omega arith

active_words_le : (r : ℕ) → 31 * active_words r ≤ r + 30
active_words_le r =
    elim (cases_eq r 0) [ inl e ↦ rw e (omega arith) | inr some ↦ rw (ne_eqb r 0 some) (omega arith) ]

pub words_of_le : (v : List Bool) → 31 * words_of v ≤ length v + 30
unfolding words_of
words_of_le v =
    omega (arith, length_le-groups_told (regular_words v) (canonical_regular v), groups_told_regular v, active_words_le (length v % 31))
