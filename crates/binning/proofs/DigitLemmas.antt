-- The least power of ten that cuts a number to its first digits.
use Rattle.std.proofs.Common.{◌≡◌, ℕ, zero, suc, ◌+◌, ◌-◌, ◌*◌, ◌/◌, ◌%◌, ◌^◌, ◌<◌, ◌≤◌, ◌⊎◌, inl, inr, List, [], ◌∷◌, ◌++◌, length, length-append, refl, sym, ap, ◌∙◌, arith}
use Rattle.std.specs.Fmt.{decimal}
use Rattle.std.proofs.lemmas.Fmt.{decimal_by_steps}
use Rattle.std.proofs.lemmas.Nat.{pow-add}
use Rattle.std.proofs.Math.Nat.{mul-le-mul_left}
use Rattle.binning.specs.Keys.{first_digits}

-- a power of ten, and the one before it is too low
pub record IsUnit (digits n unit : ℕ) : Type 0 where
  pub zeros : ℕ
  pub power : unit ≡ 10 ^ zeros
  pub low : (zeros ≡ 0) ⊎ (10 ^ (digits + zeros) ≤ 10 * n)

pub pow_pos : (k : ℕ) → 0 < 10 ^ k
pow_pos zero = omega arith
pow_pos (suc k) = let h = pow_pos k in let e : 10 ^ (suc k) ≡ 10 ^ k * 10 = pow_suc k in omega arith
  where
    pow_suc : (k : ℕ) → 10 ^ (suc k) ≡ 10 ^ k * 10
    pow_suc k = let s : k + 1 ≡ suc k = omega arith in ap (λ (m : ℕ). 10 ^ m) (sym s) ∙ pow-add 10 k 1

pub pow_next : (k : ℕ) → 10 ^ (k + 1) ≡ 10 ^ k * 10
pow_next k = pow-add 10 k 1

pub pow_le : (a b : ℕ) → a ≤ b → 10 ^ a ≤ 10 ^ b
pow_le a b h =
    let e : a + (b - a) ≡ b = omega arith in
    let p = pow-add 10 a (b - a) in
    let q : 10 ^ (a + (b - a)) ≡ 10 ^ b = ap (λ (m : ℕ). 10 ^ m) e in
    let one : 1 ≤ 10 ^ (b - a) = pow_pos (b - a) in
    let m = mul-le-mul_left (10 ^ a) one in
    omega arith

-- exponents are in the order of their powers
exponents : (a b n : ℕ) → 10 ^ a ≤ n → n < 10 ^ b → a < b
exponents a b n low high = let h : b ≤ a → 10 ^ b ≤ 10 ^ a = pow_le b a in grind arith

-- how long a number is in decimal
pub record HasDigits (n : ℕ) (ds : List ℕ) : Type 0 where
  pub below : n < 10 ^ length ds
  pub some : 1 ≤ length ds
  pub from : (length ds ≡ 1) ⊎ (10 ^ (length ds - 1) ≤ n)

has_one : (n d : ℕ) → n < 10 → HasDigits n (d ∷ [])
has_one n d h = record { below = omega arith; some = omega arith; from = inl refl }

has_more : (n d : ℕ) (ds : List ℕ) → 10 ≤ n → HasDigits (n / 10) ds → HasDigits n (ds ++ d ∷ [])
has_more n d ds h has =
    let l : length (ds ++ d ∷ []) ≡ length ds + 1 = length-append ds (d ∷ []) in
    let p = pow_next (length ds) in
    let below : n < 10 ^ (length ds + 1) = omega (arith, has.below) in
    let from : 10 ^ length ds ≤ n = tail_from n ds h has in
    record {
      below = rw l below;
      some = omega arith;
      from = rw l (let e : length ds + 1 - 1 ≡ length ds = omega arith in rw e (inr from));
    }
  where
    tail_from : (n : ℕ) (ds : List ℕ) → 10 ≤ n → HasDigits (n / 10) ds → 10 ^ length ds ≤ n
    tail_from n ds h has = from_cases n (length ds) h has.some has.from
      where
        from_cases : (n l : ℕ) → 10 ≤ n → 1 ≤ l → (l ≡ 1) ⊎ (10 ^ (l - 1) ≤ n / 10) → 10 ^ l ≤ n
        from_cases n l h some (inl e) = rw e h
        from_cases n l h some (inr low) =
            let e : l - 1 + 1 ≡ l = omega arith in
            let p = pow_next (l - 1) in
            let q : 10 ^ (l - 1 + 1) ≡ 10 ^ l = ap (λ (m : ℕ). 10 ^ m) e in
            omega arith

pub decimal_digits : (n : ℕ) → n < 2 ^ 64 → HasDigits n (decimal n)
decimal_digits n h = decimal_by_steps HasDigits (λ n h. has_one n (48 + n) h) (λ n ds h has. has_more n (48 + n % 10) ds h has) n h

-- such a power, below which the rest has few digits, is that of the definition
pub first_digits_by : (digits n unit : ℕ) → 1 ≤ digits → n < 2 ^ 64 → IsUnit digits n unit → n < 10 ^ digits * unit → n - n % unit ≡ first_digits digits n
first_digits_by digits n unit some small u high =
    let has = decimal_digits n small in
    let e : length (decimal n) - digits ≡ u.zeros = zeros_by digits n u.zeros (length (decimal n)) some has.below has.some has.from u.low (rw (pow-add 10 digits u.zeros, ← u.power) high) in
    rw (e, ← u.power) refl
  where
    zeros_by : (digits n exponent len : ℕ) → 1 ≤ digits → n < 10 ^ len → 1 ≤ len → (len ≡ 1) ⊎ (10 ^ (len - 1) ≤ n) → (exponent ≡ 0) ⊎ (10 ^ (digits + exponent) ≤ 10 * n) → n < 10 ^ (digits + exponent) → len - digits ≡ exponent
    zeros_by digits n exponent len some below one (inl e) (inl z) high = omega arith
    zeros_by digits n exponent len some below one (inr from) (inl z) high =
        let f = exponents (len - 1) (digits + exponent) n from high in omega arith
    zeros_by digits n exponent len some below one (inl e) (inr low) high =
        let p = pow_next (digits + exponent - 1) in
        let s : digits + exponent - 1 + 1 ≡ digits + exponent = omega arith in
        let q : 10 ^ (digits + exponent - 1 + 1) ≡ 10 ^ (digits + exponent) = ap (λ (m : ℕ). 10 ^ m) s in
        let f = exponents (digits + exponent - 1) len n (omega arith) below in omega arith
    zeros_by digits n exponent len some below one (inr from) (inr low) high =
        let p = pow_next (digits + exponent - 1) in
        let s : digits + exponent - 1 + 1 ≡ digits + exponent = omega arith in
        let q : 10 ^ (digits + exponent - 1 + 1) ≡ 10 ^ (digits + exponent) = ap (λ (m : ℕ). 10 ^ m) s in
        let f = exponents (digits + exponent - 1) len n (omega arith) below in
        let g = exponents (len - 1) (digits + exponent) n from high in omega arith

pub unit_one : (digits n : ℕ) → IsUnit digits n 1
unit_one digits n = record { zeros = 0; power = refl; low = inl refl }

pub unit_pos : (digits n unit : ℕ) → IsUnit digits n unit → 0 < unit
unit_pos digits n unit u = rw u.power (pow_pos u.zeros)

pub ten_pow : (digits : ℕ) → 1 ≤ digits → 10 ≤ 10 ^ digits
ten_pow digits h = pow_le 1 digits h

pub below_unit : (digits n unit : ℕ) → n / unit < 10 ^ digits → 0 < unit → n < 10 ^ digits * unit
below_unit digits n unit h some = lt_mul n unit (10 ^ digits) h some
  where
    lt_mul : (n unit k : ℕ) → n / unit < k → 0 < unit → n < k * unit
    lt_mul n unit k h some =
        let q : n / unit + 1 ≤ k = omega arith in
        let m = mul-le-mul_left unit q in
        omega arith

pub above_unit : (digits n unit : ℕ) → 10 ^ digits ≤ n / unit → 0 < unit → 10 ^ digits * unit ≤ n
above_unit digits n unit h some = le_mul n unit (10 ^ digits) h some
  where
    le_mul : (n unit k : ℕ) → k ≤ n / unit → 0 < unit → k * unit ≤ n
    le_mul n unit k h some = let m = mul-le-mul_left unit h in omega arith

pub unit_more : (digits n unit : ℕ) → IsUnit digits n unit → 10 ^ digits * unit ≤ n → IsUnit digits n (unit * 10)
unit_more digits n unit u h =
    let low : 10 ^ (digits + (u.zeros + 1)) ≤ 10 * n =
    let e : digits + u.zeros + 1 ≡ digits + (u.zeros + 1) = omega arith in
    let q : 10 ^ (digits + u.zeros + 1) ≡ 10 ^ (digits + (u.zeros + 1)) = ap (λ (m : ℕ). 10 ^ m) e in
    let p = pow_next (digits + u.zeros) in
    let r = pow-add 10 digits u.zeros in
    let v : 10 ^ digits * 10 ^ u.zeros ≤ n = rw (← u.power) h in
    omega arith in
    record { zeros = u.zeros + 1; power = sym (pow_next u.zeros ∙ ap (λ m. m * 10) (sym u.power)); low = inr low }

pub ten_unit : (digits n unit : ℕ) → 1 ≤ digits → IsUnit digits n unit → 10 ^ digits ≤ n / unit → unit * 10 ≤ n
ten_unit digits n unit some u high =
    let most = above_unit digits n unit high (unit_pos digits n unit u) in
    let m = mul-le-mul_left unit (ten_pow digits some) in
    omega arith
