-- Rows as the places of a number.
use Rattle.std.proofs.Common.{◌≡◌, ℕ, zero, suc, ◌+◌, ◌-◌, ◌*◌, ◌/◌, ◌%◌, ◌^◌, ◌<◌, ◌≤◌, Bool, true, false, List, [], ◌∷◌, ◌++◌, length, take, drop, get_or, replicate, refl, sym, ap, subst, ◌∙◌, arith, length-append, length-drop, min}
use Rattle.std.proofs.lemmas.List.{length-replicate, append-nil, take_more, take_all, replicate-append-replicate, get_or-drop}
use Rattle.std.proofs.lemmas.Nat.{pow_pos, pow-add, pow_below}
use Rattle.std.proofs.Math.Nat.{mod-eq_of_lt}
use Rattle.wah_words.specs.Places.{places}
use Rattle.wah_words.proofs.PlacesLemmas.{length-places, places-zeros, places-ones}
use Rattle.wah_iter.specs.Rows.{rows_from, rows_of}
use Rattle.wah_iter.proofs.RowLaws.{rows_from-append, rows_from-zeros, rows-zeros, rows_one}
use Rattle.wah_iter.proofs.PlacesLaws.{places-cat}
use Rattle.wah_iter.proofs.AppendLaws.{joined_below}

-- The first k of `width` places of the word have these rows, and the others are zero.
pub record Packed (base width k word : ℕ) (rows : List ℕ) : Type 0 where
  pub within : k ≤ width
  pub bits : ℕ
  pub few : bits < 2 ^ k
  pub word_is : word ≡ bits * 2 ^ (width - k)
  pub rows_are : rows_from base (places k bits) ≡ rows

pub packed_none : (base width : ℕ) → Packed base width 0 0 []
unfolding rows_from places
packed_none base width = record { within = omega arith; bits = 0; few = omega arith; word_is = omega arith; rows_are = refl }

-- the last of some places
last_row : (k m : ℕ) → rows_from k (places (m + 1) 1) ≡ (k + m) ∷ []
last_row k m =
    let cat : places (m + 1) 1 ≡ places m 0 ++ places 1 1 = places-cat m 1 0 1 (omega arith) in
    ap (rows_from k) cat ∙ rows_from-append k (places m 0) (places 1 1) ∙ rw (places-zeros m, rows_from-zeros k m, length-replicate m false) (rows_one (k + m))

-- one row more, at place p
pub packed_more : (base width k word p : ℕ) (rows : List ℕ) → Packed base width k word rows → k ≤ p → p < width → Packed base width (p + 1) (word + 2 ^ (width - 1 - p)) (rows ++ (base + p) ∷ [])
packed_more base width k word p rows h low high =
    let gap = p - k in
    let two : 2 ^ (gap + 1) ≡ 2 * 2 ^ gap = omega (arith, pow-add 2 gap 1) in
    let pos = pow_pos gap in
    let cut : width - k ≡ (gap + 1) + (width - (p + 1)) = omega arith in
    let pow : 2 ^ (width - k) ≡ 2 ^ (gap + 1) * 2 ^ (width - (p + 1)) = ap (λ n. 2 ^ n) cut ∙ pow-add 2 (gap + 1) (width - (p + 1)) in
    let end : width - 1 - p ≡ width - (p + 1) = omega arith in
    let all : k + (gap + 1) ≡ p + 1 = omega arith in
    let below : h.bits * 2 ^ (gap + 1) + 1 < 2 ^ (k + (gap + 1)) = joined_below k (gap + 1) h.bits 1 h.few (omega (arith, two, pos)) in
    let at : base + k + gap ≡ base + p = omega arith in
    let cat = places-cat k (gap + 1) h.bits 1 (omega (arith, two, pos)) in
    record {
      within = omega arith;
      bits = h.bits * 2 ^ (gap + 1) + 1;
      few = subst (λ n. h.bits * 2 ^ (gap + 1) + 1 < 2 ^ n) all below;
      word_is = rw (h.word_is, pow, end) (grind arith);
      rows_are = ap (λ n. rows_from base (places n (h.bits * 2 ^ (gap + 1) + 1))) (sym all) ∙ ap (rows_from base) cat ∙ rows_from-append base (places k h.bits) (places (gap + 1) 1) ∙ rw (length-places k h.bits, h.rows_are, last_row (base + k) gap) (ap (λ n. rows ++ n ∷ []) at);
    }

-- what is packed, as the whole number
pub packed_rows : (base width k word : ℕ) (rows : List ℕ) → Packed base width k word rows → rows_from base (places width word) ≡ rows
packed_rows base width k word rows h =
    let all : width ≡ k + (width - k) = omega (arith, h.within) in
    let zeros : word ≡ h.bits * 2 ^ (width - k) + 0 = omega (arith, h.word_is) in
    ap (λ n. rows_from base (places n word)) all ∙ ap (λ n. rows_from base (places (k + (width - k)) n)) zeros ∙ ap (rows_from base) (places-cat k (width - k) h.bits 0 (pow_pos (width - k))) ∙ rows_from-append base (places k h.bits) (places (width - k) 0) ∙ rw (h.rows_are, places-zeros (width - k), rows_from-zeros (base + length (places k h.bits)) (width - k)) (append-nil rows)

-- a whole place of it is free above each place that is
pub packed_fits : (base width k word p : ℕ) (rows : List ℕ) → Packed base width k word rows → k ≤ p → p < width → word + 2 ^ (width - 1 - p) < 2 ^ width
packed_fits base width k word p rows h low high =
    let m = packed_more base width k word p rows h low high in
    let all : width ≡ (p + 1) + (width - (p + 1)) = omega arith in
    let e : 2 ^ width ≡ 2 ^ (p + 1) * 2 ^ (width - (p + 1)) = ap (λ n. 2 ^ n) all ∙ pow-add 2 (p + 1) (width - (p + 1)) in
    rw (e, m.word_is) (grind (arith, m.few, pow_pos (width - (p + 1))))

pub packed_below : (base width k word : ℕ) (rows : List ℕ) → Packed base width k word rows → word < 2 ^ width
packed_below base width k word rows h =
    let all : width ≡ k + (width - k) = omega (arith, h.within) in
    let e : 2 ^ width ≡ 2 ^ k * 2 ^ (width - k) = ap (λ n. 2 ^ n) all ∙ pow-add 2 k (width - k) in
    rw (e, h.word_is) (grind (arith, h.few, pow_pos (width - k)))

-- how many places are before the i-th of the rows and after the one before it
abbrev pub reached : ℕ → List ℕ → ℕ → ℕ
reached base rows zero = 0
reached base rows (suc i) = get_or rows i 0 + 1 - base

pub reached_more : (base i : ℕ) (rows : List ℕ) → reached base rows (i + 1) ≡ get_or rows i 0 + 1 - base
reached_more base i rows = let e : i + 1 ≡ suc i = omega arith in ap (reached base rows) e

-- the next row comes after what was reached
pub reached_le : (base i : ℕ) (rows : List ℕ) → ((i : ℕ) → i + 1 < length rows → get_or rows i 0 < get_or rows (i + 1) 0) → (0 < length rows → base ≤ get_or rows 0 0) → i < length rows → base + reached base rows i ≤ get_or rows i 0
reached_le base zero rows rising first h = omega (arith, first h)
reached_le base (suc i) rows rising first h =
    let e : suc i ≡ i + 1 = omega arith in
    let before = rising i (omega (arith, h)) in
    let from = reached_le base i rows rising first (omega (arith, h)) in
    rw e (omega (arith, before, from))

pub one_shifted : (x : ℕ) → x < 32 → 1 * 2 ^ x % 4294967296 ≡ 2 ^ x
one_shifted x h =
    let below : 2 ^ x < 2 ^ 32 = pow_below x 32 h in
    let e : 1 * 2 ^ x ≡ 2 ^ x = omega arith in
    rw e (mod-eq_of_lt {n = 2 ^ x} {m = 4294967296} below)

-- ---- a whole group

-- so many rows that follow each other
one_true : (k : ℕ) → rows_from k (replicate 1 true) ≡ k ∷ []
unfolding rows_from
one_true k = refl

row_after : (base n : ℕ) → rows_from base (replicate (n + 1) true) ≡ rows_from base (replicate n true) ++ (base + n) ∷ []
row_after base n =
    ap (rows_from base) (sym (replicate-append-replicate n 1 true)) ∙ rows_from-append base (replicate n true) (replicate 1 true) ∙ rw (length-replicate n true) (ap (λ l. rows_from base (replicate n true) ++ l) (one_true (base + n)))

low_bound : (base i : ℕ) (rows : List ℕ) → ((i : ℕ) → i + 1 < length rows → get_or rows i 0 < get_or rows (i + 1) 0) → base ≤ get_or rows 0 0 → i < length rows → base + i ≤ get_or rows i 0
low_bound base zero rows rising first h = omega (arith, first)
low_bound base (suc i) rows rising first h =
    let e : suc i ≡ i + 1 = omega arith in
    let before = rising i (omega (arith, h)) in
    let from = low_bound base i rows rising first (omega (arith, h)) in
    rw e (omega (arith, before, from))

high_bound : (i m : ℕ) (rows : List ℕ) → ((i : ℕ) → i + 1 < length rows → get_or rows i 0 < get_or rows (i + 1) 0) → i + m < length rows → get_or rows i 0 + m ≤ get_or rows (i + m) 0
high_bound i zero rows rising h = let e : i + 0 ≡ i = omega arith in rw e (omega arith)
high_bound i (suc m) rows rising h =
    let e : i + suc m ≡ i + m + 1 = omega arith in
    let before = rising (i + m) (omega (arith, h)) in
    let from = high_bound i m rows rising (omega (arith, h)) in
    rw e (omega (arith, before, from))

rows_in_row : (base n : ℕ) (rows : List ℕ) → n ≤ length rows → ((i : ℕ) → i < n → get_or rows i 0 ≡ base + i) → rows_from base (replicate n true) ≡ take n rows
unfolding rows_from
rows_in_row base zero rows h each = refl
rows_in_row base (suc n) rows h each =
    let e : n + 1 ≡ suc n = omega arith in
    let less = rows_in_row base n rows (omega (arith, h)) (λ i k. each i (omega (arith, k))) in
    let same : base + n ≡ get_or rows n 0 = sym (each n (omega arith)) in
    subst (λ m. rows_from base (replicate m true) ≡ take m rows) e (row_after base n ∙ ap (λ l. l ++ (base + n) ∷ []) less ∙ ap (λ x. take n rows ++ x ∷ []) same ∙ sym (take_more rows n 0 (omega (arith, h))))

pub whole_group : (base : ℕ) (rows : List ℕ) → ((i : ℕ) → i + 1 < length rows → get_or rows i 0 < get_or rows (i + 1) 0) → (0 < length rows → base ≤ get_or rows 0 0) → 31 ≤ length rows → get_or rows 30 0 ≡ base + 30 → rows_from base (places 31 2147483647) ≡ take 31 rows
whole_group base rows rising first h last =
    ap (rows_from base) (places-ones 31 2147483647 refl)
    ∙ rows_in_row base 31 rows h (λ i k. (let e : i + (30 - i) ≡ 30 = omega (arith, k) in let high = high_bound i (30 - i) rows rising (omega (arith, k, h)) in let high' : get_or rows i 0 + (30 - i) ≤ get_or rows 30 0 = subst (λ n. get_or rows i 0 + (30 - i) ≤ get_or rows n 0) e high in omega (arith, low_bound base i rows rising (first (omega (arith, h))) (omega (arith, k, h)), high', last, k)))

-- ---- groups and rests at the end

pub group_more : (old mid new : List Bool) (z c base w : ℕ) (rs : List ℕ) → mid ≡ old ++ replicate z false → new ≡ mid ++ places c w → length old + z ≡ base → rows_from base (places c w) ≡ rs → (length new ≡ base + c) × (rows_of new ≡ rows_of old ++ rs)
group_more old mid new z c base w rs m e h k =
    let at : length mid ≡ base = ap length m ∙ length-append old (replicate z false) ∙ omega (arith, length-replicate z false, h) in
    let at' : 0 + length mid ≡ base = omega (arith, at) in
    (ap length e ∙ length-append mid (places c w) ∙ omega (arith, at, length-places c w), ap rows_of e ∙ rows_from-append 0 mid (places c w) ∙ rw (at', k, rows-zeros old mid z m) refl)

pub rising_after : (d : ℕ) (rows : List ℕ) → ((i : ℕ) → i + 1 < length rows → get_or rows i 0 < get_or rows (i + 1) 0) → (i : ℕ) → i + 1 < length (drop d rows) → get_or (drop d rows) i 0 < get_or (drop d rows) (i + 1) 0
rising_after d rows rising i h =
    let long = length-drop d rows in
    let e : d + (i + 1) ≡ d + i + 1 = omega arith in
    rw (get_or-drop d rows i 0, get_or-drop d rows (i + 1) 0, e) (rising (d + i) (omega (arith, h, long)))

pub no_rows : (rows : List ℕ) → length rows ≤ 0 → rows ≡ []
no_rows [] h = refl
no_rows (x ∷ l) h = absurd (omega arith)

pub rest_is : (d : ℕ) (rows : List ℕ) → take (length rows - d) (drop d rows) ≡ drop d rows
rest_is d rows = take_all (length rows - d) (drop d rows) (omega (arith, length-drop d rows))

pub group_room : (left count g o r old new : ℕ) → min (2 * left + 1) (g - o) ≤ old → old ≤ new + min 2 (r + 1 - o) → o ≤ r → r < g → 0 < count → count ≤ left → min (2 * (left - count) + 1) (g - (r + 1)) ≤ new
group_room left count g o r old new a b h k l m = grind arith
