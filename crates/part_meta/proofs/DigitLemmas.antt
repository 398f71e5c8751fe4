-- Numbers in four digits.
use Rattle.std.proofs.Common.{◌≡◌, ℕ, ◌+◌, ◌-◌, ◌*◌, ◌/◌, ◌%◌, ◌<◌, [], ◌∷◌, sym, ◌∙◌, arith}
use Rattle.part_meta.specs.FileNames.{four_digits}

-- the number that four digits write
abbrev pub number_of : ℕ → ℕ → ℕ → ℕ → ℕ
number_of a b c d = 1000 * (a - 48) + 100 * (b - 48) + 10 * (c - 48) + (d - 48)

hundreds : (n : ℕ) → n / 100 ≡ 10 * (n / 1000) + n / 100 % 10
hundreds n = omega arith

tens : (n : ℕ) → n / 10 ≡ 10 * (n / 100) + n / 10 % 10
tens n = omega arith

pub four_digits_write : (n : ℕ) → n < 10000 → number_of (48 + n / 1000 % 10) (48 + n / 100 % 10) (48 + n / 10 % 10) (48 + n % 10) ≡ n
four_digits_write n small = omega (arith, hundreds n, tens n)

pub four_digits_written : (n a b c d : ℕ) → n < 10000 → a ∷ b ∷ c ∷ d ∷ [] ≡ four_digits n → number_of a b c d ≡ n
four_digits_written n a b c d small e =
    let thousands : a ≡ 48 + n / 1000 % 10 = cc in
    let hundreds : b ≡ 48 + n / 100 % 10 = cc in
    let tens : c ≡ 48 + n / 10 % 10 = cc in
    let ones : d ≡ 48 + n % 10 = cc in
    omega (arith, four_digits_write n small)

pub four_digits-injective : (m n : ℕ) → m < 10000 → n < 10000 → four_digits m ≡ four_digits n → m ≡ n
four_digits-injective m n low high e =
    sym (four_digits_write m low) ∙ four_digits_written n (48 + m / 1000 % 10) (48 + m / 100 % 10) (48 + m / 10 % 10) (48 + m % 10) high e
