-- Tests as the places of a number.
use Rattle.std.proofs.Common.{◌≡◌, ◌<◌, ◌≤◌, ◌+◌, ◌*◌, ◌^◌, ℕ, Bool, true, false, [], ◌∷◌, pow_mono, refl, arith}
use Rattle.std.proofs.lemmas.Grind.{pow_more}
use Rattle.std.specs.Int.{from_bool}
use Rattle.wah_words.specs.Places.{places}

pub bit_fits : (word count : ℕ) (b : Bool) → word < 2 ^ count → 2 * word + from_bool b < 2 ^ (count + 1)
bit_fits word count true h = omega (arith, h, pow_more 2 count)
bit_fits word count false h = omega (arith, h, pow_more 2 count)

pub small_word : (word count : ℕ) → word < 2 ^ count → count ≤ 30 → word < 1073741824
small_word word count h few = let all : 2 ^ count ≤ 2 ^ 30 = pow_mono few in omega (arith, h, all)

pub bit_small : (word : ℕ) (b : Bool) → word < 1073741824 → 2 * word + from_bool b < 2 ^ 32
bit_small word true h = omega (arith, h)
bit_small word false h = omega (arith, h)

pub no_places : (n : ℕ) → places 0 n ≡ []
unfolding places
no_places n = refl

pub one_bit : (b : Bool) → from_bool b < 2 ^ 1
one_bit true = omega arith
one_bit false = omega arith

pub one_place : (b : Bool) → places 1 (from_bool b) ≡ b ∷ []
unfolding places
one_place true = refl
one_place false = refl
