-- A key rises, or stays, as the value rises.
use Rattle.std.proofs.Common.{◌≡◌, ℕ, zero, suc, ◌+◌, ◌-◌, ◌*◌, ◌/◌, ◌%◌, ◌^◌, ◌<◌, ◌≤◌, ◌⊎◌, inl, inr, true, false, eqb, cond, List, [], ◌∷◌, length, ℤ, pos, negsuc, ◌≤ℤ◌, refl, ap, arith}
use Rattle.std.specs.Fmt.{decimal, digits, digits_onto, digit_glyph}
use Rattle.std.specs.List.{count_by}
use Rattle.std.proofs.lemmas.Bool.{cases_order}
use Rattle.std.proofs.lemmas.Bool.Decides.{nat_tests}
use Rattle.std.proofs.lemmas.Int.{ints}
use Rattle.std.proofs.lemmas.List.Sums.{sum_by-cons}
use Rattle.std.proofs.lemmas.Nat.{pow-add}
use Rattle.std.proofs.Math.Nat.{mul-le-mul_left, le-div_iff_mul-le, div-add-mod}
use Rattle.binning.specs.Spans.{int_le}
use Rattle.binning.specs.Keys.{first_digits, leading, key, IsKeying}
use Rattle.binning.specs.declared.rules.Keying.{Keying}
use Rattle.binning.specs.declared.rules.Keying.TheVariants.{Each, Bounds, Digits}
use Rattle.binning.proofs.TestLemmas.{either, int_le-true, le_from}
use Rattle.binning.proofs.DigitLemmas.{pow_pos, pow_next, pow_le}
use Rattle.binning.proofs.BoundLemmas.{div_le}

-- ---- how long a number is in decimal, of which at most so many digits are written

record IsLength (most n len : ℕ) : Type 0 where
  some : 1 ≤ len
  few : len ≤ most
  low : (len ≡ 1) ⊎ (10 ^ (len - 1) ≤ n)
  high : (len ≡ most) ⊎ (n < 10 ^ len)

-- the digits of a number before those that are there
record Spells (most n : ℕ) (acc ds : List ℕ) : Type 0 where
  len : ℕ
  long : length ds ≡ len + length acc
  is : IsLength most n len

one_digit : (k n : ℕ) → n < 10 → IsLength (suc k) n 1
one_digit k n h = record { some = omega arith; few = omega arith; low = inl refl; high = inr (omega arith) }

one_more : (k n len : ℕ) → 10 ≤ n → IsLength k (n / 10) len → IsLength (suc k) n (suc len)
one_more k n len h is = record {
  some = omega arith;
  few = omega (arith, is.few);
  low = inr (let e : suc len - 1 ≡ len = omega arith in rw e (up n len h is.some is.low));
  high = top k n len is.high;
}
  where
    up : (n len : ℕ) → 10 ≤ n → 1 ≤ len → (len ≡ 1) ⊎ (10 ^ (len - 1) ≤ n / 10) → 10 ^ len ≤ n
    up n len h some (inl e) = rw e h
    up n len h some (inr low) =
        let p = pow_next (len - 1) in
        let e : len - 1 + 1 ≡ len = omega arith in
        let q : 10 ^ (len - 1 + 1) ≡ 10 ^ len = ap (λ (m : ℕ). 10 ^ m) e in
        omega arith

    top : (k n len : ℕ) → (len ≡ k) ⊎ (n / 10 < 10 ^ len) → (suc len ≡ suc k) ⊎ (n < 10 ^ suc len)
    top k n len (inl e) = inl (ap suc e)
    top k n len (inr high) =
        let p = pow_next len in
        let e : len + 1 ≡ suc len = omega arith in
        let q : 10 ^ (len + 1) ≡ 10 ^ suc len = ap (λ (m : ℕ). 10 ^ m) e in
        inr (omega arith)

spells : (k n : ℕ) (acc : List ℕ) → Spells (suc k) n acc (digits_onto (suc k) 10 false n acc)
spells zero n acc =
    let d = digit_glyph false (n % 10) in
    either (eqb (n / 10) 0) (λ t. rw t (last n d acc)) (λ f. rw f (last n d acc))
  where
    last : (n d : ℕ) (acc : List ℕ) → Spells 1 n acc (d ∷ acc)
    last n d acc = record {
      len = 1;
      long = omega arith;
      is = record { some = omega arith; few = omega arith; low = inl refl; high = inl refl };
    }
spells (suc k) n acc =
    let d = digit_glyph false (n % 10) in
    either (eqb (n / 10) 0)
    (λ t. rw t (record { len = 1; long = omega arith; is = one_digit (suc k) n (below n t) }))
    (λ f. rw f (longer k n d acc (digits_onto (suc k) 10 false (n / 10) (d ∷ acc)) (above n f) (spells k (n / 10) (d ∷ acc))))
  where
    below : (n : ℕ) → eqb (n / 10) 0 ≡ true → n < 10
    below n t = let e : n / 10 ≡ 0 = grind (arith, nat_tests) in omega arith

    above : (n : ℕ) → eqb (n / 10) 0 ≡ false → 10 ≤ n
    above n f = let e : 0 < n / 10 = grind (arith, nat_tests) in omega arith

    longer : (k n d : ℕ) (acc ds : List ℕ) → 10 ≤ n → Spells (suc k) (n / 10) (d ∷ acc) ds → Spells (suc (suc k)) n acc ds
    longer k n d acc ds h s = record {
      len = suc s.len;
      long = omega (arith, s.long);
      is = one_more (suc k) n s.len h s.is;
    }

decimal_length : (n : ℕ) → IsLength 64 n (length (decimal n))
unfolding digits
decimal_length n =
    let s = spells 63 n [] in
    let e : length (decimal n) ≡ s.len = omega (arith, s.long) in
    rw e s.is

-- ---- first digits rise, or stay

-- a number cut down to a multiple
cut_up : (n m u : ℕ) → 0 < u → n ≤ m → n - n % u ≤ m - m % u
cut_up n m u some h =
    let d = mul-le-mul_left u (div_le n m u some h) in
    let a = div-add-mod n u in
    let b = div-add-mod m u in
    omega arith

-- a multiple stays below
cut_above : (q u m : ℕ) → 0 < u → q * u ≤ m → q * u ≤ m - m % u
cut_above q u m some h =
    let d = mul-le-mul_left u ((le-div_iff_mul-le {k = u} {x = q} {y = m} some).1 h) in
    let a = div-add-mod m u in
    omega arith

-- a number that has so many digits still has them when only the first are kept
kept_above : (d m len : ℕ) → 1 ≤ d → 1 ≤ len → 10 ^ (len - 1) ≤ m → 10 ^ (len - 1) ≤ m - m % 10 ^ (len - d)
kept_above d m len some one low =
    let e : (len - 1) - (len - d) + (len - d) ≡ len - 1 = omega arith in
    let p = pow-add 10 ((len - 1) - (len - d)) (len - d) in
    let q : 10 ^ ((len - 1) - (len - d) + (len - d)) ≡ 10 ^ (len - 1) = ap (λ (m : ℕ). 10 ^ m) e in
    let c = cut_above (10 ^ ((len - 1) - (len - d))) (10 ^ (len - d)) m (pow_pos (len - d)) (omega arith) in
    omega arith

-- more digits, a greater number
longer_above : (n m a b : ℕ) → IsLength 64 n a → IsLength 64 m b → a < b → (n < 10 ^ (b - 1)) × (10 ^ (b - 1) ≤ m)
longer_above n m a b is js h = (top n a b h js.few is.high, bottom m a b is.some h js.low)
  where
    top : (n a b : ℕ) → a < b → b ≤ 64 → (a ≡ 64) ⊎ (n < 10 ^ a) → n < 10 ^ (b - 1)
    top n a b h few (inl e) = absurd (omega arith)
    top n a b h few (inr high) = let p = pow_le a (b - 1) (omega arith) in omega arith

    bottom : (m a b : ℕ) → 1 ≤ a → a < b → (b ≡ 1) ⊎ (10 ^ (b - 1) ≤ m) → 10 ^ (b - 1) ≤ m
    bottom m a b some h (inl e) = absurd (omega arith)
    bottom m a b some h (inr low) = low

kept_up : (d n m a b : ℕ) → 1 ≤ d → n ≤ m → IsLength 64 n a → IsLength 64 m b → n - n % 10 ^ (a - d) ≤ m - m % 10 ^ (b - d)
kept_up d n m a b some h is js = by_order (cases_order a b)
  where
    by_order : (a ≡ b) ⊎ ((a < b) ⊎ (b < a)) → n - n % 10 ^ (a - d) ≤ m - m % 10 ^ (b - d)
    by_order (inl e) = rw e (cut_up n m (10 ^ (b - d)) (pow_pos (b - d)) h)
    by_order (inr (inl less)) =
        let l = longer_above n m a b is js less in
        let k = kept_above d m b some js.some l.1 in
        let f : n - n % 10 ^ (a - d) ≤ n = omega arith in
        omega (arith, l.0)
    by_order (inr (inr more)) = let l = longer_above m n b a js is more in absurd (omega (arith, l.0, l.1))

first_digits_up : (d n m : ℕ) → 1 ≤ d → n ≤ m → first_digits d n ≤ first_digits d m
first_digits_up d n m some h = kept_up d n m (length (decimal n)) (length (decimal m)) some h (decimal_length n) (decimal_length m)

leading_up : (d : ℕ) (v w : ℤ) → 1 ≤ d → v ≤ℤ w → leading d v ≤ℤ leading d w
leading_up d (pos n) (pos m) some h =
    let u = first_digits_up d n m some (omega (arith, ints)) in omega (arith, ints)
leading_up d (pos n) (negsuc m) some h = absurd (omega (arith, ints))
leading_up d (negsuc n) (pos m) some h = omega (arith, ints)
leading_up d (negsuc n) (negsuc m) some h =
    let u = first_digits_up d (m + 1) (n + 1) some (omega (arith, ints)) in omega (arith, ints)

-- ---- the count of bounds rises, or stays

count_up : (bounds : List ℤ) (v w : ℤ) → v ≤ℤ w → count_by (λ b. int_le b v) bounds ≤ count_by (λ b. int_le b w) bounds
count_up [] v w h = omega arith
count_up (b ∷ bounds) v w h =
    let rest = count_up bounds v w h in
    let x = sum_by-cons (λ b. cond (int_le b v) 1 0) b bounds in
    let y = sum_by-cons (λ b. cond (int_le b w) 1 0) b bounds in
    let first : cond (int_le b v) 1 0 ≤ cond (int_le b w) 1 0 = one b v w h in
    omega arith
  where
    one : (b v w : ℤ) → v ≤ℤ w → cond (int_le b v) 1 0 ≤ cond (int_le b w) 1 0
    one b v w h =
        either (int_le b v)
        (λ t. rw (t, int_le-true b w (let l = le_from b v t in omega (arith, ints))) (omega arith))
        (λ f. rw f (omega arith))

-- ---- keys

pub key_up : (keys : Keying) (v w : ℤ) → IsKeying keys → v ≤ℤ w → key keys v ≤ℤ key keys w
key_up Each v w is h = h
key_up (Bounds bounds) v w is h = let c = count_up bounds v w h in omega (arith, ints)
key_up (Digits d) v w is h = leading_up d v w is.0 h
