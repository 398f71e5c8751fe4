-- Numbers of at most 18 digits.
use Rattle.std.proofs.Common.{◌≡◌, ◌∙◌, ◌<◌, ◌≤◌, ◌^◌, ◌&&◌, ℕ, Bool, true, false, List, [], ◌∷◌, Option, Some, None, IfSome, cond, length, min, option_map, refl, arith, lit<}
use Rattle.std.specs.Char.{digit_value, is_ascii_digit}
use Rattle.std.specs.List.{list_all}
use Rattle.std.specs.Str.Parse.{AllDigits, digits_value}
use Rattle.std.proofs.Math.Nat.{lt_of_lt_of_le, pow-le-pow_right}
use Rattle.std.proofs.lemmas.Bool.Decides.{nat_tests}
use Rattle.std.proofs.lemmas.Bool.{le-leb, lt-leb}
use Rattle.std.proofs.lemmas.Int.Digits.{digits_value-lt}
use Rattle.fb_types.specs.Field.{natural_of}
use Rattle.command_words.specs.Words.{number_of}

digit_below : (d : ℕ) → is_ascii_digit d ≡ true → digit_value d < 10
digit_below d h = grind (arith, nat_tests)

both : (a b : Bool) → (a && b) ≡ true → (a ≡ true) × (b ≡ true)
both true b h = (refl, h)
both false b h = absurd (cc)

all_below : (ds : List ℕ) → list_all is_ascii_digit ds ≡ true → AllDigits 10 ds
all_below [] h = tt
all_below (d ∷ ds) h = let parts = both (is_ascii_digit d) (list_all is_ascii_digit ds) h in (digit_below d parts.0, all_below ds parts.1)

-- a number of at most 18 digits is below 10 ^ 18
natural_of-short : (ds : List ℕ) → length ds ≤ 18 → IfSome (natural_of ds) (λ n. n < 10 ^ 18)
natural_of-short [] h = tt
natural_of-short (d ∷ ds) h = by (list_all is_ascii_digit (d ∷ ds)) refl
  where
    by : (b : Bool) → list_all is_ascii_digit (d ∷ ds) ≡ b → IfSome (cond b (Some (digits_value 10 (d ∷ ds))) None) (λ n. n < 10 ^ 18)
    by true e =
        let below : digits_value 10 (d ∷ ds) < 10 ^ length (d ∷ ds) = digits_value-lt 10 (d ∷ ds) (all_below (d ∷ ds) e) in
        let most : 10 ^ length (d ∷ ds) ≤ 10 ^ 18 = pow-le-pow_right (lit< tt) h in
        lt_of_lt_of_le below most
    by false e = tt

cut : (o : Option ℕ) → IfSome o (λ n. n < 10 ^ 18) → option_map (λ n. min n (2 ^ 64)) o ≡ o
cut None h = refl
cut (Some n) h = let e : min n (2 ^ 64) ≡ n = omega arith in rw e refl

-- what `natural` gives of a short word is its number
pub number_of-natural : (word : List ℕ) (found : Option ℕ) → length word ≤ 18 → found ≡ option_map (λ n. min n (2 ^ 64)) (natural_of word)
    → (found ≡ number_of word) × IfSome found (λ n. n < 10 ^ 18)
unfolding number_of
number_of-natural word found short is =
    let same : found ≡ natural_of word = is ∙ cut (natural_of word) (natural_of-short word short) in
    (rw (le-leb (length word) 18 short) same, rw same (natural_of-short word short))

pub number_of-long : (word : List ℕ) → 18 < length word → number_of word ≡ None
unfolding number_of
number_of-long word long = rw (lt-leb (length word) 18 long) refl
