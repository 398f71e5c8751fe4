-- The operations on words are those on their places.
use Rattle.std.proofs.Common.{◌≡◌, ℕ, zero, suc, ◌+◌, ◌%◌, ◌<◌, min, max, Bool, true, false, eqb, refl, ap, ◌∙◌, arith, bit_and, bit_or}
use Rattle.std.specs.Prelude.{bit_xor}
use Rattle.std.specs.Int.{bit_at}
use Rattle.std.proofs.lemmas.Nat.Bits.{bit_at_and, bit_at_or, bit_at_xor, bit_at-lt}
use Rattle.wah_words.specs.Places.{places}
use Rattle.wah_logic.specs.Logic.{each_place, and, or, xor, and_not}

-- an operation on words that is one on each digit
pub from_digits : (op : Bool → Bool → Bool) (f : ℕ → ℕ → ℕ) → ((a b i : ℕ) → eqb (bit_at (f a b) i) 1 ≡ op (eqb (bit_at a i) 1) (eqb (bit_at b i) 1)) → (c a b : ℕ) → places c (f a b) ≡ each_place op (places c a) (places c b)
unfolding places each_place
from_digits op f h zero a b = refl
from_digits op f h (suc c) a b = rw (h a b c, from_digits op f h c a b) refl

min_digits : (x y : ℕ) → x < 2 → y < 2 → eqb (min x y) 1 ≡ and (eqb x 1) (eqb y 1)
min_digits zero zero h k = refl
min_digits zero (suc zero) h k = refl
min_digits (suc zero) zero h k = refl
min_digits (suc zero) (suc zero) h k = refl
min_digits (suc (suc x)) y h k = absurd (omega arith)
min_digits zero (suc (suc y)) h k = absurd (omega arith)
min_digits (suc zero) (suc (suc y)) h k = absurd (omega arith)

max_digits : (x y : ℕ) → x < 2 → y < 2 → eqb (max x y) 1 ≡ or (eqb x 1) (eqb y 1)
max_digits zero zero h k = refl
max_digits zero (suc zero) h k = refl
max_digits (suc zero) zero h k = refl
max_digits (suc zero) (suc zero) h k = refl
max_digits (suc (suc x)) y h k = absurd (omega arith)
max_digits zero (suc (suc y)) h k = absurd (omega arith)
max_digits (suc zero) (suc (suc y)) h k = absurd (omega arith)

sum_digits : (x y : ℕ) → x < 2 → y < 2 → eqb ((x + y) % 2) 1 ≡ xor (eqb x 1) (eqb y 1)
sum_digits zero zero h k = refl
sum_digits zero (suc zero) h k = refl
sum_digits (suc zero) zero h k = refl
sum_digits (suc zero) (suc zero) h k = refl
sum_digits (suc (suc x)) y h k = absurd (omega arith)
sum_digits zero (suc (suc y)) h k = absurd (omega arith)
sum_digits (suc zero) (suc (suc y)) h k = absurd (omega arith)

and_digit : (a b i : ℕ) → eqb (bit_at (bit_and a b) i) 1 ≡ and (eqb (bit_at a i) 1) (eqb (bit_at b i) 1)
and_digit a b i = ap (λ x. eqb x 1) (bit_at_and a b i) ∙ min_digits (bit_at a i) (bit_at b i) (bit_at-lt a i) (bit_at-lt b i)

or_digit : (a b i : ℕ) → eqb (bit_at (bit_or a b) i) 1 ≡ or (eqb (bit_at a i) 1) (eqb (bit_at b i) 1)
or_digit a b i = ap (λ x. eqb x 1) (bit_at_or a b i) ∙ max_digits (bit_at a i) (bit_at b i) (bit_at-lt a i) (bit_at-lt b i)

xor_digit : (a b i : ℕ) → eqb (bit_at (bit_xor a b) i) 1 ≡ xor (eqb (bit_at a i) 1) (eqb (bit_at b i) 1)
xor_digit a b i = ap (λ x. eqb x 1) (bit_at_xor a b i) ∙ sum_digits (bit_at a i) (bit_at b i) (bit_at-lt a i) (bit_at-lt b i)

without : (x y : Bool) → and x (xor x y) ≡ and_not x y
without true y = refl
without false y = refl

and_not_digit : (a b i : ℕ) → eqb (bit_at (bit_and a (bit_xor a b)) i) 1 ≡ and_not (eqb (bit_at a i) 1) (eqb (bit_at b i) 1)
and_not_digit a b i = and_digit a (bit_xor a b) i ∙ ap (and (eqb (bit_at a i) 1)) (xor_digit a b i) ∙ without (eqb (bit_at a i) 1) (eqb (bit_at b i) 1)

pub places_and : (c a b : ℕ) → places c (bit_and a b) ≡ each_place and (places c a) (places c b)
places_and c a b = from_digits and (λ x y. bit_and x y) and_digit c a b

pub places_or : (c a b : ℕ) → places c (bit_or a b) ≡ each_place or (places c a) (places c b)
places_or c a b = from_digits or (λ x y. bit_or x y) or_digit c a b

pub places_xor : (c a b : ℕ) → places c (bit_xor a b) ≡ each_place xor (places c a) (places c b)
places_xor c a b = from_digits xor (λ x y. bit_xor x y) xor_digit c a b

pub places_and_not : (c a b : ℕ) → places c (bit_and a (bit_xor a b)) ≡ each_place and_not (places c a) (places c b)
places_and_not c a b = from_digits and_not (λ x y. bit_and x (bit_xor x y)) and_not_digit c a b
