-- The ones of a word, taken from the first on.
use Rattle.std.proofs.Common.{◌≡◌, ℕ, suc, ◌+◌, ◌-◌, ◌*◌, ◌%◌, ◌^◌, ◌<◌, ◌≤◌, Bool, true, false, List, [], ◌∷◌, ◌++◌, length, replicate, refl, sym, ap, ◌∙◌, arith, subst, inl, inr, lit<}
use Rattle.std.proofs.lemmas.Bool.{cases_lt}
use Rattle.std.proofs.lemmas.List.{append-nil}
use Rattle.std.proofs.lemmas.Nat.{pow_pos, shl_whole, shl_below, leading_top}
use Rattle.std.proofs.Math.Nat.{pow-suc}
use Rattle.std.proofs.Math.Pow.{pow_mono}
use Rattle.std.specs.Int.Count.{count_leading_zeros}
use Rattle.wah_words.specs.Places.{places}
use Rattle.wah_words.proofs.PlacesLemmas.{length-places, places-zeros}
use Rattle.wah_iter.specs.Rows.{rows_from}
use Rattle.wah_iter.specs.Walks.{rows_left, IsTop}
use Rattle.wah_iter.proofs.PlacesLaws.{places-cat}
use Rattle.wah_iter.proofs.RowLaws.{rows_from-append, rows_from-zeros, rows_one}

rows_from-nil : (k : ℕ) → rows_from k [] ≡ []
unfolding rows_from
rows_from-nil k = refl

pub rows-zero : (k c : ℕ) → rows_from k (places c 0) ≡ []
rows-zero k c = ap (rows_from k) (places-zeros c) ∙ rows_from-zeros k c

pub rows-same : (k m n : ℕ) → m ≡ n → rows_from k (replicate (n - m) true) ≡ []
rows-same k m n e = let z : n - m ≡ 0 = omega arith in ap (λ c. rows_from k (replicate c true)) z ∙ rows_from-nil k

pub fill_true : (row n : ℕ) (b : Bool) → b ≡ true → rows_from row (places 31 0) ++ rows_from row (replicate (row + n - row) true) ≡ rows_from row (replicate n b)
fill_true row n b e =
    let c : row + n - row ≡ n = omega arith in
    ap (λ l. l ++ rows_from row (replicate (row + n - row) true)) (rows-zero row 31) ∙ ap (λ k. rows_from row (replicate k true)) c ∙ ap (λ x. rows_from row (replicate n x)) (sym e)

pub fill_false : (row n : ℕ) (b : Bool) → b ≡ false → rows_from row (places 31 0) ++ rows_from (row + n) (replicate (row + n - (row + n)) true) ≡ rows_from row (replicate n b)
fill_false row n b e =
    ap (λ l. l ++ rows_from (row + n) (replicate (row + n - (row + n)) true)) (rows-zero row 31) ∙ rows-same (row + n) (row + n) (row + n) refl ∙ sym (ap (λ x. rows_from row (replicate n x)) e ∙ rows_from-zeros row n)

pub word_rows : (row end : ℕ) (v : List Bool) → rows_from row v ++ rows_from end (replicate (end - end) true) ≡ rows_from row v
word_rows row end v = ap (λ l. rows_from row v ++ l) (rows-same end end end refl) ∙ append-nil (rows_from row v)

-- a tail in the high places
pub tail_word : (bits count : ℕ) → bits < 2 ^ count → count < 31 → bits * 2 ^ (31 - count) % 4294967296 ≡ bits * 2 ^ (31 - count) + 0
tail_word bits count h few = shl_whole bits count (31 - count) 32 h (omega arith) ∙ omega arith

pub tail_places : (bits count : ℕ) → bits < 2 ^ count → count < 31 → places 31 (bits * 2 ^ (31 - count) % 4294967296) ≡ places count bits ++ places (31 - count) 0
tail_places bits count h few =
    let e : 31 ≡ count + (31 - count) = omega arith in
    ap (λ n. places 31 n) (tail_word bits count h few) ∙ ap (λ c. places c (bits * 2 ^ (31 - count) + 0)) e ∙ places-cat count (31 - count) bits 0 (pow_pos (31 - count))

pub tail_fits : (bits count : ℕ) → bits < 2 ^ count → count < 31 → bits * 2 ^ (31 - count) % 4294967296 < 2147483648
tail_fits bits count h few =
    let e : count + (31 - count) ≡ 31 = omega arith in
    let low : bits * 2 ^ (31 - count) < 2 ^ 31 = (let P : ℕ → Type 0 = λ x. bits * 2 ^ (31 - count) < 2 ^ x in subst P e (shl_below bits count (31 - count) h)) in
    omega (arith, low, tail_word bits count h few)

pub tail_rows : (row bits count end : ℕ) → bits < 2 ^ count → count < 31 → rows_from row (places 31 (bits * 2 ^ (31 - count) % 4294967296)) ++ rows_from end (replicate (end - end) true) ≡ rows_from row (places count bits)
tail_rows row bits count end h few =
    word_rows row end (places 31 (bits * 2 ^ (31 - count) % 4294967296)) ∙ ap (rows_from row) (tail_places bits count h few) ∙ rows_from-append row (places count bits) (places (31 - count) 0) ∙ ap (λ l. rows_from row (places count bits) ++ l) (rows-zero (row + length (places count bits)) (31 - count)) ∙ append-nil (rows_from row (places count bits))

-- ---- the highest place

pub is_top : (word : ℕ) → 0 < word → word < 2147483648 → IsTop word (count_leading_zeros 32 word)
is_top word some fits =
    let z = count_leading_zeros 32 word in
    let wide : word < 2 ^ 32 = omega (arith, fits) in
    let t = leading_top 32 word some wide in
    let j : ℕ = t.0 in
    let e : count_leading_zeros 32 word + suc j ≡ 32 = t.1 in
    let low : 2 ^ j ≤ word = t.2 in
    let high : word < 2 ^ suc j = t.3 in
    let place : 31 - count_leading_zeros 32 word ≡ j = omega (arith, e) in
    let most : j < 31 = elim (cases_lt j 31) [
      | inl h ↦ h
      | inr h ↦ let p : 2 ^ 31 ≤ 2 ^ j = pow_mono h in absurd (omega (arith, p, low, fits))
    ] in
    let twice : 2 ^ suc j ≡ 2 ^ j * 2 = pow-suc 2 j in
    record {
      some = omega (arith, e, most);
      few = omega (arith, e);
      low = rw place low;
      high = rw place (omega (arith, high, twice));
    }

pub one_taken : (base word z : ℕ) → IsTop word z → rows_from base (places 31 word) ≡ (base + z - 1) ∷ rows_from base (places 31 (word - 2 ^ (31 - z)))
one_taken base word z t =
    let j : ℕ = 31 - z in
    let m : ℕ = word - 2 ^ j in
    let below : m < 2 ^ j = omega (arith, t.high, t.low) in
    let whole : 31 ≡ z + j = omega (arith, t.few) in
    let split : word ≡ 1 * 2 ^ j + m = omega (arith, t.low) in
    let rest : m ≡ 0 * 2 ^ j + m = omega arith in
    let all : places 31 word ≡ places z 1 ++ places j m = ap (λ n. places 31 n) split ∙ ap (λ c. places c (1 * 2 ^ j + m)) whole ∙ places-cat z j 1 m below in
    let new : places 31 m ≡ places z 0 ++ places j m = ap (λ n. places 31 n) rest ∙ ap (λ c. places c (0 * 2 ^ j + m)) whole ∙ places-cat z j 0 m below in
    let before : z ≡ (z - 1) + 1 = omega (arith, t.some) in
    let first : places z 1 ≡ places (z - 1) 0 ++ places 1 1 = ap (λ c. places c 1) before ∙ places-cat (z - 1) 1 0 1 (lit< tt) in
    let place : base + length (places (z - 1) 0) ≡ base + z - 1 = omega (arith, length-places (z - 1) 0, t.some) in
    let one : rows_from base (places z 1) ≡ (base + z - 1) ∷ [] = ap (rows_from base) first ∙ rows_from-append base (places (z - 1) 0) (places 1 1) ∙ ap (λ l. l ++ rows_from (base + length (places (z - 1) 0)) (places 1 1)) (rows-zero base (z - 1)) ∙ rows_one (base + length (places (z - 1) 0)) ∙ ap (λ n. n ∷ []) place in
    let same : base + length (places z 1) ≡ base + length (places z 0) = omega (arith, length-places z 1, length-places z 0) in
    let old_rows : rows_from base (places 31 word) ≡ (base + z - 1) ∷ rows_from (base + length (places z 0)) (places j m) = ap (rows_from base) all ∙ rows_from-append base (places z 1) (places j m) ∙ ap (λ l. l ++ rows_from (base + length (places z 1)) (places j m)) one ∙ ap (λ n. (base + z - 1) ∷ rows_from n (places j m)) same in
    let new_rows : rows_from base (places 31 m) ≡ rows_from (base + length (places z 0)) (places j m) = ap (rows_from base) new ∙ rows_from-append base (places z 0) (places j m) ∙ ap (λ l. l ++ rows_from (base + length (places z 0)) (places j m)) (rows-zero base z) in
    old_rows ∙ ap (λ l. (base + z - 1) ∷ l) (sym new_rows)

rows_from-true : (k : ℕ) (v : List Bool) → rows_from k (true ∷ v) ≡ k ∷ rows_from (k + 1) v
unfolding rows_from
rows_from-true k v = refl

pub next_taken : (base word next end : ℕ) → word ≡ 0 → next < end → rows_from base (places 31 word) ++ rows_from next (replicate (end - next) true) ≡ (next + 1 - 1) ∷ (rows_from base (places 31 word) ++ rows_from (next + 1) (replicate (end - (next + 1)) true))
next_taken base word next end e h =
    let none : rows_from base (places 31 word) ≡ [] = ap (λ w. rows_from base (places 31 w)) e ∙ rows-zero base 31 in
    let c : end - next ≡ suc (end - (next + 1)) = omega arith in
    let n : next ≡ next + 1 - 1 = omega arith in
    rw none (ap (λ k. rows_from next (replicate k true)) c ∙ rows_from-true next (replicate (end - (next + 1)) true) ∙ ap (λ k. k ∷ rows_from (next + 1) (replicate (end - (next + 1)) true)) n)

-- ---- a whole walk

pub left_empty : (word base next end : ℕ) (v : List Bool) → word ≡ 0 → next ≡ end → rows_left word base next end v ≡ rows_from end v
left_empty word base next end v w n =
    let none : rows_from base (places 31 word) ≡ [] = ap (λ x. rows_from base (places 31 x)) w ∙ rows-zero base 31 in
    rw (none, rows-same next next end n) refl

pub left_end : (word base next end : ℕ) (v : List Bool) → word ≡ 0 → next ≡ end → v ≡ [] → rows_left word base next end v ≡ []
left_end word base next end v w n e = left_empty word base next end v w n ∙ ap (rows_from end) e ∙ rows_from-nil end

pub left_next : (word base next end row : ℕ) (rv v old : List Bool) → rows_from base (places 31 word) ++ rows_from next (replicate (end - next) true) ≡ rows_from row rv → end ≡ row + length rv → old ≡ rv ++ v → rows_left word base next end v ≡ rows_from row old
left_next word base next end row rv v old p e o =
    ap (λ l. l ++ rows_from end v) p ∙ ap (λ n. rows_from row rv ++ rows_from n v) e ∙ sym (rows_from-append row rv v) ∙ ap (rows_from row) (sym o)

pub ended : (old before now : List ℕ) → before ≡ old → now ≡ before → now ≡ [] → old ≡ []
ended old before now e f h = sym e ∙ sym f ∙ h
