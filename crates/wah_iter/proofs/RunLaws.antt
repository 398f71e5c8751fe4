-- The runs of joined lists, and the runs of a word, taken from the first on.
use Rattle.std.proofs.Common.{◌≡◌, ℕ, zero, suc, ◌+◌, ◌-◌, ◌*◌, ◌%◌, ◌^◌, ◌<◌, ◌≤◌, Bool, true, false, cond, eqb, List, [], ◌∷◌, ◌++◌, length, replicate, refl, sym, ap, ◌∙◌, arith, subst, inl, inr}
use Rattle.std.proofs.lemmas.Bool.{cases_lt, eq-eqb, ne_eqb}
use Rattle.std.proofs.lemmas.Nat.{pow_pos, pow-add, leading_length, mod-mul-add, mul-le}
use Rattle.std.proofs.Math.Nat.{pow-suc}
use Rattle.std.proofs.Math.Pow.{pow_mono}
use Rattle.std.specs.Int.Count.{count_leading_zeros}
use Rattle.wah_words.specs.Places.{places}
use Rattle.wah_words.proofs.PlacesLemmas.{length-places, places-zeros, places-ones}
use Rattle.wah_iter.specs.Rows.{before, runs_from}
use Rattle.wah_iter.specs.Walks.{runs_left, BeginsAt, BeginsAfter, IsTop, IsFirstRun}
use Rattle.wah_iter.proofs.PlacesLaws.{places-cat}
use Rattle.wah_iter.proofs.AppendLaws.{joined_below}
use Rattle.wah_iter.proofs.WalkLaws.{tail_places}

merge_first : (a b c : ℕ) (r : ℕ × ℕ) (rs : List (ℕ × ℕ)) (t : Bool) → eqb c r.0 ≡ t → before a b (cond t ((b, r.1) ∷ rs) ((b, c) ∷ r ∷ rs)) ≡ cond t ((a, r.1) ∷ rs) ((a, c) ∷ r ∷ rs)
merge_first a b c r rs true e = rw (eq-eqb b b refl) refl
merge_first a b c r rs false e = rw (eq-eqb b b refl) refl

pub before_merge : (a b c : ℕ) (rs : List (ℕ × ℕ)) → before a b (before b c rs) ≡ before a c rs
before_merge a b c [] = rw (eq-eqb b b refl) refl
before_merge a b c (r ∷ rs) = merge_first a b c r rs (eqb c r.0) refl

begins_first : (a b : ℕ) (r : ℕ × ℕ) (rs : List (ℕ × ℕ)) (t : Bool) → BeginsAt a (cond t ((a, r.1) ∷ rs) ((a, b) ∷ r ∷ rs))
begins_first a b r rs true = refl
begins_first a b r rs false = refl

pub begins_before : (a b : ℕ) (rs : List (ℕ × ℕ)) → BeginsAt a (before a b rs)
begins_before a b [] = refl
begins_before a b (r ∷ rs) = begins_first a b r rs (eqb b r.0)

-- a run that ends where no other begins
pub before_apart : (first past row : ℕ) (rs : List (ℕ × ℕ)) → BeginsAt row rs → (row ≡ past → ⊥) → before first past rs ≡ (first, past) ∷ rs
before_apart first past row [] h n = absurd h
before_apart first past row (r ∷ rs) h n =
    let apart : eqb past r.0 ≡ false = ne_eqb past r.0 (λ e. n (sym h ∙ sym e)) in
    rw apart refl

pub runs_from-append : (k : ℕ) (v w : List Bool) (rs : List (ℕ × ℕ)) → runs_from k (v ++ w) rs ≡ runs_from k v (runs_from (k + length v) w rs)
unfolding runs_from
runs_from-append k [] w rs = let e : k ≡ k + 0 = omega arith in ap (λ n. runs_from n w rs) e
runs_from-append k (true ∷ v) w rs =
    let e : k + 1 + length v ≡ k + suc (length v) = omega arith in
    ap (before k (k + 1)) (runs_from-append (k + 1) v w rs ∙ ap (λ n. runs_from (k + 1) v (runs_from n w rs)) e)
runs_from-append k (false ∷ v) w rs =
    let e : k + 1 + length v ≡ k + suc (length v) = omega arith in
    runs_from-append (k + 1) v w rs ∙ ap (λ n. runs_from (k + 1) v (runs_from n w rs)) e

runs_from-nil : (k : ℕ) (rs : List (ℕ × ℕ)) → runs_from k [] rs ≡ rs
unfolding runs_from
runs_from-nil k rs = refl

pub runs_from-zeros : (k n : ℕ) (rs : List (ℕ × ℕ)) → runs_from k (replicate n false) rs ≡ rs
unfolding runs_from
runs_from-zeros k zero rs = refl
runs_from-zeros k (suc n) rs = runs_from-zeros (k + 1) n rs

runs_from-suc : (k n : ℕ) (rs : List (ℕ × ℕ)) → runs_from k (replicate (suc n) true) rs ≡ before k (k + suc n) rs
unfolding runs_from
runs_from-suc k zero rs = refl
runs_from-suc k (suc n) rs =
    let e : k + 1 + suc n ≡ k + suc (suc n) = omega arith in
    ap (before k (k + 1)) (runs_from-suc (k + 1) n rs ∙ ap (λ p. before (k + 1) p rs) e) ∙ before_merge k (k + 1) (k + suc (suc n)) rs

pub runs_from-ones : (k n : ℕ) (rs : List (ℕ × ℕ)) → 1 ≤ n → runs_from k (replicate n true) rs ≡ before k (k + n) rs
runs_from-ones k zero rs h = absurd (omega arith)
runs_from-ones k (suc n) rs h = runs_from-suc k n rs

pub runs-zero : (k c : ℕ) (rs : List (ℕ × ℕ)) → runs_from k (places c 0) rs ≡ rs
runs-zero k c rs = ap (λ v. runs_from k v rs) (places-zeros c) ∙ runs_from-zeros k c rs

pub runs-same : (k m n : ℕ) (rs : List (ℕ × ℕ)) → m ≡ n → runs_from k (replicate (n - m) true) rs ≡ rs
runs-same k m n rs e = let z : n - m ≡ 0 = omega arith in ap (λ c. runs_from k (replicate c true) rs) z ∙ runs_from-nil k rs

-- ---- the piece of a word

pub fill_true_runs : (row n : ℕ) (b : Bool) (rs : List (ℕ × ℕ)) → b ≡ true → runs_from row (places 31 0) (runs_from row (replicate (row + n - row) true) rs) ≡ runs_from row (replicate n b) rs
fill_true_runs row n b rs e =
    let c : row + n - row ≡ n = omega arith in
    runs-zero row 31 (runs_from row (replicate (row + n - row) true) rs) ∙ ap (λ k. runs_from row (replicate k true) rs) c ∙ ap (λ x. runs_from row (replicate n x) rs) (sym e)

pub fill_false_runs : (row n : ℕ) (b : Bool) (rs : List (ℕ × ℕ)) → b ≡ false → runs_from row (places 31 0) (runs_from (row + n) (replicate (row + n - (row + n)) true) rs) ≡ runs_from row (replicate n b) rs
fill_false_runs row n b rs e =
    runs-zero row 31 (runs_from (row + n) (replicate (row + n - (row + n)) true) rs) ∙ runs-same (row + n) (row + n) (row + n) rs refl ∙ sym (ap (λ x. runs_from row (replicate n x) rs) e ∙ runs_from-zeros row n rs)

pub word_runs : (row end : ℕ) (v : List Bool) (rs : List (ℕ × ℕ)) → runs_from row v (runs_from end (replicate (end - end) true) rs) ≡ runs_from row v rs
word_runs row end v rs = ap (runs_from row v) (runs-same end end end rs refl)

pub tail_runs : (row bits count end : ℕ) (rs : List (ℕ × ℕ)) → bits < 2 ^ count → count < 31 → runs_from row (places 31 (bits * 2 ^ (31 - count) % 4294967296)) (runs_from end (replicate (end - end) true) rs) ≡ runs_from row (places count bits) rs
tail_runs row bits count end rs h few =
    word_runs row end (places 31 (bits * 2 ^ (31 - count) % 4294967296)) rs ∙ ap (λ v. runs_from row v rs) (tail_places bits count h few) ∙ runs_from-append row (places count bits) (places (31 - count) 0) rs ∙ ap (runs_from row (places count bits)) (runs-zero (row + length (places count bits)) (31 - count) rs)

-- ---- the first run of a word

less_one : (a p : ℕ) → 0 < a → (a - 1) * p + p ≡ a * p
less_one zero p h = absurd (omega arith)
less_one (suc a) p h = let e : suc a - 1 ≡ a = omega arith in rw e (omega arith)

pub is_first_run : (word z : ℕ) → IsTop word z → IsFirstRun word z (count_leading_zeros 32 (2 ^ (32 - z) - 1 - word))
is_first_run word z t =
    let m : ℕ = 2 ^ (32 - z) - 1 - word in
    let y : ℕ = count_leading_zeros 32 m in
    let upper : 32 - z ≡ suc (31 - z) = omega (arith, t.few) in
    let double : 2 ^ (32 - z) ≡ 2 ^ (31 - z) * 2 = ap (λ k. 2 ^ k) upper ∙ pow-suc 2 (31 - z) in
    let wide : 2 ^ (32 - z) ≤ 2 ^ 31 = (let h : 32 - z ≤ 31 = omega (arith, t.some) in pow_mono h) in
    let small : m < 2 ^ 32 = omega (arith, wide) in
    let l = leading_length 32 m small in
    let n : ℕ = l.0 in
    let e : y + n ≡ 32 = l.1 in
    let high : m < 2 ^ n = l.2 in
    let low : 2 ^ n ≤ 2 * m + 1 = l.3 in
    let place : 32 - y ≡ n = omega (arith, e) in
    let short : n < 32 - z = elim (cases_lt n (32 - z)) [
      | inl h ↦ h
      | inr h ↦ let p : 2 ^ (32 - z) ≤ 2 ^ n = pow_mono h in absurd (omega (arith, p, low, double, t.low, t.high))
    ] in
    let count : 32 - z ≡ (y - z) + n = omega (arith, e, short) in
    let power : 2 ^ (32 - z) ≡ 2 ^ (y - z) * 2 ^ n = ap (λ k. 2 ^ k) count ∙ pow-add 2 (y - z) n in
    let all : word + 1 + m ≡ 2 ^ (32 - z) = omega (arith, double, t.high) in
    let less : (2 ^ (y - z) - 1) * 2 ^ n + 2 ^ n ≡ 2 ^ (y - z) * 2 ^ n = less_one (2 ^ (y - z)) (2 ^ n) (pow_pos (y - z)) in
    let split : word ≡ (2 ^ (y - z) - 1) * 2 ^ n + (2 ^ n - 1 - m) = omega (arith, all, power, less, high) in
    let below : 2 ^ n - 1 - m < 2 ^ n = omega (arith, pow_pos n) in
    let rest : word % 2 ^ n ≡ 2 ^ n - 1 - m = ap (λ x. x % 2 ^ n) split ∙ mod-mul-add (2 ^ (y - z) - 1) (2 ^ n) (2 ^ n - 1 - m) below in
    let rest_below : word % 2 ^ n < 2 ^ n = rw rest below in
    let split_rest : word ≡ (2 ^ (y - z) - 1) * 2 ^ n + word % 2 ^ n = split ∙ ap (λ x. (2 ^ (y - z) - 1) * 2 ^ n + x) (sym rest) in
    let zero_below : y < 32 → word % 2 ^ n < 2 ^ (31 - y) = (λ h.
    let one : n ≡ suc (31 - y) = omega (arith, e, h) in
    let half : 2 ^ n ≡ 2 ^ (31 - y) * 2 = ap (λ k. 2 ^ k) one ∙ pow-suc 2 (31 - y) in
    omega (arith, rest, half, low, high)) in
    record {
      after = omega (arith, e, short);
      few = omega (arith, e);
      zero_next = (let P : ℕ → Type 0 = λ k. y < 32 → word % 2 ^ k < 2 ^ (31 - y) in subst P (sym place) zero_below);
      rest = (let P : ℕ → Type 0 = λ k. word % 2 ^ k < 2 ^ k in subst P (sym place) rest_below);
      split = (let P : ℕ → Type 0 = λ k. word ≡ (2 ^ (y - z) - 1) * 2 ^ k + word % 2 ^ k in subst P (sym place) split_rest);
    }

pub run_taken : (base word z y : ℕ) (rs : List (ℕ × ℕ)) → IsTop word z → IsFirstRun word z y → runs_from base (places 31 word) rs ≡ before (base + z - 1) (base + y - 1) (runs_from base (places 31 (word % 2 ^ (32 - y))) rs)
run_taken base word z y rs t f =
    let l : ℕ = 32 - y in
    let n : ℕ = y - z in
    let r : ℕ = word % 2 ^ l in
    let ones_below : 2 ^ n - 1 < 2 ^ n = omega (arith, pow_pos n) in
    let width : 31 ≡ (z - 1) + (n + l) = omega (arith, t.some, f.after, f.few) in
    let width_rest : 31 ≡ (z - 1 + n) + l = omega (arith, t.some, f.after, f.few) in
    let inner : (2 ^ n - 1) * 2 ^ l + r < 2 ^ (n + l) = joined_below n l (2 ^ n - 1) r ones_below f.rest in
    let high : word ≡ 0 * 2 ^ (n + l) + ((2 ^ n - 1) * 2 ^ l + r) = f.split ∙ omega arith in
    let all : places 31 word ≡ places (z - 1) 0 ++ (places n (2 ^ n - 1) ++ places l r) = ap (places 31) high ∙ ap (λ c. places c (0 * 2 ^ (n + l) + ((2 ^ n - 1) * 2 ^ l + r))) width ∙ places-cat (z - 1) (n + l) 0 ((2 ^ n - 1) * 2 ^ l + r) inner ∙ ap (λ v. places (z - 1) 0 ++ v) (places-cat n l (2 ^ n - 1) r f.rest) in
    let rest_high : r ≡ 0 * 2 ^ l + r = omega arith in
    let rest : places 31 r ≡ places (z - 1 + n) 0 ++ places l r = ap (places 31) rest_high ∙ ap (λ c. places c (0 * 2 ^ l + r)) width_rest ∙ places-cat (z - 1 + n) l 0 r f.rest in
    let more : 2 ^ n - 1 + 1 ≡ 2 ^ n = omega (arith, pow_pos n) in
    let ones : places n (2 ^ n - 1) ≡ replicate n true = places-ones n (2 ^ n - 1) more in
    let first : base + length (places (z - 1) 0) ≡ base + z - 1 = omega (arith, length-places (z - 1) 0, t.some) in
    let past : base + z - 1 + length (places n (2 ^ n - 1)) ≡ base + y - 1 = omega (arith, length-places n (2 ^ n - 1), t.some, f.after) in
    let past_ones : base + z - 1 + n ≡ base + y - 1 = omega (arith, t.some, f.after) in
    let past_rest : base + length (places (z - 1 + n) 0) ≡ base + y - 1 = omega (arith, length-places (z - 1 + n) 0, t.some, f.after) in
    let tail = runs_from (base + y - 1) (places l r) rs in
    let old_runs : runs_from base (places 31 word) rs ≡ before (base + z - 1) (base + y - 1) tail =
    ap (λ v. runs_from base v rs) all ∙ runs_from-append base (places (z - 1) 0) (places n (2 ^ n - 1) ++ places l r) rs ∙ runs-zero base (z - 1) (runs_from (base + length (places (z - 1) 0)) (places n (2 ^ n - 1) ++ places l r) rs) ∙ ap (λ k. runs_from k (places n (2 ^ n - 1) ++ places l r) rs) first ∙ runs_from-append (base + z - 1) (places n (2 ^ n - 1)) (places l r) rs ∙ ap (λ k. runs_from (base + z - 1) (places n (2 ^ n - 1)) (runs_from k (places l r) rs)) past ∙ ap (λ v. runs_from (base + z - 1) v tail) ones ∙ runs_from-ones (base + z - 1) n tail (omega (arith, f.after)) ∙ ap (λ k. before (base + z - 1) k tail) past_ones in
    let new_runs : runs_from base (places 31 r) rs ≡ tail = ap (λ v. runs_from base v rs) rest ∙ runs_from-append base (places (z - 1 + n) 0) (places l r) rs ∙ runs-zero base (z - 1 + n) (runs_from (base + length (places (z - 1 + n) 0)) (places l r) rs) ∙ ap (λ k. runs_from k (places l r) rs) past_rest in
    old_runs ∙ ap (before (base + z - 1) (base + y - 1)) (sym new_runs)

-- all rows from `next` up to `end`
pub range_taken : (base word next end : ℕ) (rs : List (ℕ × ℕ)) → word ≡ 0 → next < end → runs_from base (places 31 word) (runs_from next (replicate (end - next) true) rs) ≡ before next end (runs_from base (places 31 word) (runs_from end (replicate (end - end) true) rs))
range_taken base word next end rs e h =
    let none : (qs : List (ℕ × ℕ)) → runs_from base (places 31 word) qs ≡ qs = λ qs. ap (λ w. runs_from base (places 31 w) qs) e ∙ runs-zero base 31 qs in
    let last : next + (end - next) ≡ end = omega arith in
    none (runs_from next (replicate (end - next) true) rs) ∙ runs_from-ones next (end - next) rs (omega arith) ∙ ap (λ k. before next k rs) last ∙ ap (before next end) (sym (none (runs_from end (replicate (end - end) true) rs) ∙ runs-same end end end rs refl))

-- ---- a run after which a zero comes

begins_after_first : (past a b : ℕ) (r : ℕ × ℕ) (rs : List (ℕ × ℕ)) (t : Bool) → past < a → BeginsAfter past (cond t ((a, r.1) ∷ rs) ((a, b) ∷ r ∷ rs))
begins_after_first past a b r rs true h = h
begins_after_first past a b r rs false h = h

begins_after_before : (past a b : ℕ) (rs : List (ℕ × ℕ)) → past < a → BeginsAfter past (before a b rs)
begins_after_before past a b [] h = h
begins_after_before past a b (r ∷ rs) h = begins_after_first past a b r rs (eqb b r.0) h

pub begins_after : (past k : ℕ) (v : List Bool) (rs : List (ℕ × ℕ)) → past < k → BeginsAfter past rs → BeginsAfter past (runs_from k v rs)
unfolding runs_from
begins_after past k [] rs h e = e
begins_after past k (true ∷ v) rs h e = begins_after_before past k (k + 1) (runs_from (k + 1) v rs) h
begins_after past k (false ∷ v) rs h e = begins_after past (k + 1) v rs (omega (arith, h)) e

-- the rest of a word whose first run ends before the word does
pub apart_word : (base word z y next end : ℕ) (v : List Bool) → IsFirstRun word z y → (next ≡ end) × (end ≤ base + 31) → base + y - 1 < end → BeginsAfter (base + y - 1) (runs_left (word % 2 ^ (32 - y)) base next end v)
apart_word base word z y next end v f alone h =
    let l : ℕ = 31 - y in
    let r : ℕ = word % 2 ^ (32 - y) in
    let past : ℕ = base + y - 1 in
    let more = runs_from next (replicate (end - next) true) (runs_from end v []) in
    let few : y < 32 = omega (arith, f.after, alone.1, h) in
    let width : 31 ≡ y + l = omega (arith, few) in
    let high : r ≡ 0 * 2 ^ l + r = omega arith in
    let all : places 31 r ≡ places y 0 ++ places l r = ap (places 31) high ∙ ap (λ c. places c (0 * 2 ^ l + r)) width ∙ places-cat y l 0 r (f.zero_next few) in
    let later : BeginsAfter past more = subst (λ rs. BeginsAfter past rs) (sym (runs-same next next end (runs_from end v []) alone.0)) (begins_after past end v [] h tt) in
    let same : runs_from base (places 31 r) more ≡ runs_from (base + length (places y 0)) (places l r) more =
    ap (λ w. runs_from base w more) all ∙ runs_from-append base (places y 0) (places l r) more ∙ runs-zero base y (runs_from (base + length (places y 0)) (places l r) more) in
    let after : past < base + length (places y 0) = omega (arith, length-places y 0, f.after) in
    subst (λ rs. BeginsAfter past rs) (sym same) (begins_after past (base + length (places y 0)) (places l r) more after later)

pub before_later : (first past : ℕ) (rs : List (ℕ × ℕ)) → BeginsAfter past rs → before first past rs ≡ (first, past) ∷ rs
before_later first past [] h = refl
before_later first past (r ∷ rs) h =
    let apart : eqb past r.0 ≡ false = ne_eqb past r.0 (λ e. omega (arith, e, h)) in
    rw apart refl

-- ---- a whole walk

pub runs_left_empty : (word base next end : ℕ) (v : List Bool) → word ≡ 0 → next ≡ end → runs_left word base next end v ≡ runs_from end v []
runs_left_empty word base next end v w n =
    ap (λ x. runs_from base (places 31 x) (runs_from next (replicate (end - next) true) (runs_from end v []))) w ∙ runs-zero base 31 (runs_from next (replicate (end - next) true) (runs_from end v [])) ∙ runs-same next next end (runs_from end v []) n

pub runs_left_end : (word base next end : ℕ) (v : List Bool) → word ≡ 0 → next ≡ end → v ≡ [] → runs_left word base next end v ≡ []
runs_left_end word base next end v w n e = runs_left_empty word base next end v w n ∙ ap (λ l. runs_from end l []) e ∙ runs_from-nil end []

pub runs_left_next : (word base next end row : ℕ) (rv v old : List Bool) → ((rs : List (ℕ × ℕ)) → runs_from base (places 31 word) (runs_from next (replicate (end - next) true) rs) ≡ runs_from row rv rs) → end ≡ row + length rv → old ≡ rv ++ v → runs_left word base next end v ≡ runs_from row old []
runs_left_next word base next end row rv v old p e o =
    p (runs_from end v []) ∙ ap (λ n. runs_from row rv (runs_from n v [])) e ∙ sym (runs_from-append row rv v []) ∙ ap (λ l. runs_from row l []) (sym o)

pub begins_word : (base word z y : ℕ) (rs : List (ℕ × ℕ)) → IsTop word z → IsFirstRun word z y → BeginsAt (base + z - 1) (runs_from base (places 31 word) rs)
begins_word base word z y rs t f =
    let tail = runs_from base (places 31 (word % 2 ^ (32 - y))) rs in
    subst (λ l. BeginsAt (base + z - 1) l) (sym (run_taken base word z y rs t f)) (begins_before (base + z - 1) (base + y - 1) tail)

pub begins_range : (base word next end : ℕ) (rs : List (ℕ × ℕ)) → word ≡ 0 → next < end → BeginsAt next (runs_from base (places 31 word) (runs_from next (replicate (end - next) true) rs))
begins_range base word next end rs e h =
    let tail = runs_from base (places 31 word) (runs_from end (replicate (end - end) true) rs) in
    subst (λ l. BeginsAt next l) (sym (range_taken base word next end rs e h)) (begins_before next end tail)

pub top_below : (word z : ℕ) → IsTop word z → word ≤ 2 ^ (32 - z) - 1
top_below word z t =
    let upper : 32 - z ≡ suc (31 - z) = omega (arith, t.few) in
    let double : 2 ^ (32 - z) ≡ 2 ^ (31 - z) * 2 = ap (λ k. 2 ^ k) upper ∙ pow-suc 2 (31 - z) in
    omega (arith, double, t.high)

pub run_less : (word z y : ℕ) → IsFirstRun word z y → word % 2 ^ (32 - y) < word
run_less word z y f =
    let more : y - z ≡ suc (y - z - 1) = omega (arith, f.after) in
    let double : 2 ^ (y - z) ≡ 2 ^ (y - z - 1) * 2 = ap (λ k. 2 ^ k) more ∙ pow-suc 2 (y - z - 1) in
    let two : 1 ≤ 2 ^ (y - z) - 1 = omega (arith, double, pow_pos (y - z - 1)) in
    let least : 1 * 2 ^ (32 - y) ≤ (2 ^ (y - z) - 1) * 2 ^ (32 - y) = (let same : 2 ^ (32 - y) ≤ 2 ^ (32 - y) = omega arith in mul-le 1 (2 ^ (32 - y)) (2 ^ (y - z) - 1) (2 ^ (32 - y)) two same) in
    omega (arith, f.split, least, pow_pos (32 - y))

pub run_last : (first past : ℕ) (old now new : List (ℕ × ℕ)) → before first past now ≡ old → new ≡ now → new ≡ [] → old ≡ (first, past) ∷ new
run_last first past old now new e f h = sym e ∙ ap (before first past) (sym f ∙ h) ∙ ap (λ l. (first, past) ∷ l) (sym h)

pub runs_ended : (old before_now now : List (ℕ × ℕ)) → before_now ≡ old → now ≡ before_now → now ≡ [] → old ≡ []
runs_ended old before_now now e f h = sym e ∙ sym f ∙ h
