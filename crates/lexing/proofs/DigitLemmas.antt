-- Numbers read digit by digit.
use Rattle.std.proofs.Common.{◌≡◌, ℕ, zero, suc, Bool, ◌+◌, ◌-◌, ◌*◌, ◌^◌, ◌<◌, ◌≤◌, true, false, List, [], ◌∷◌, ◌++◌, length, get_or, take, drop, min, refl, sym, ap, ◌∙◌, inl, inr, arith, length-append}
use Rattle.std.specs.Prelude.{Some, None}
use Rattle.std.specs.List.{prefix_len, list_all}
use Rattle.std.specs.Char.{is_ascii_digit, digit_value}
use Rattle.std.specs.Fmt.{decimal}
use Rattle.std.specs.Str.Parse.{AllDigits, digits_value}
use Rattle.std.proofs.lemmas.Bool.{and_from, and_parts}
use Rattle.std.proofs.lemmas.Bool.Decides.{nat_tests}
use Rattle.std.proofs.lemmas.Fmt.{decimal_is_IsNumeral_wide}
use Rattle.std.proofs.Math.Nat.{pow-le-pow_right}
use Rattle.std.proofs.lemmas.Int.Digits.{digits_value-lt, digits_value_more}
use Rattle.std.proofs.lemmas.List.{take-append-drop, take_all, take_at, drop_at, length-take-le, append-nil}
use Rattle.std.proofs.lemmas.Str.Parse.{digit_at}
use Rattle.lexing.specs.Blanks.{StopsAt}
use Rattle.lexing.specs.Digits.{natural_of, natural_at}
use Rattle.lexing.proofs.Cases.{chosen, mapped}
use Rattle.lexing.proofs.Runs.{front_passes, rest_stops, prefix_len-cut}

-- ---- digits

pub digit_value-ascii : (d : ℕ) → is_ascii_digit d ≡ true → digit_value d ≡ d - 48
digit_value-ascii d h = grind (arith, nat_tests)

pub digit_ends : (d : ℕ) → is_ascii_digit d ≡ true → (48 ≤ d) × (d ≤ 57)
digit_ends d h = (grind (arith, nat_tests), grind (arith, nat_tests))

pub digit_here : (ds : List ℕ) (i : ℕ) → list_all is_ascii_digit ds ≡ true → i < length ds → is_ascii_digit (get_or ds i 0) ≡ true
digit_here [] i all within = absurd (omega arith)
digit_here (d ∷ ds) zero all within = (and_parts (is_ascii_digit d) (list_all is_ascii_digit ds) all).0
digit_here (d ∷ ds) (suc i) all within = digit_here ds i (and_parts (is_ascii_digit d) (list_all is_ascii_digit ds) all).1 (omega arith)

-- one digit more
pub digits_value-more : (ds : List ℕ) (i : ℕ) → list_all is_ascii_digit ds ≡ true → i < length ds → digits_value 10 (take (i + 1) ds) ≡ digits_value 10 (take i ds) * 10 + (get_or ds i 0 - 48)
digits_value-more ds i all within =
    let digit = digit_value-ascii (get_or ds i 0) (digit_here ds i all within) in
    digits_value_more 10 ds i within ∙ ap (λ d. digits_value 10 (take i ds) * 10 + d) digit

all_digits : (ds : List ℕ) → list_all is_ascii_digit ds ≡ true → AllDigits 10 ds
all_digits [] all = tt
all_digits (d ∷ ds) all =
    let parts = and_parts (is_ascii_digit d) (list_all is_ascii_digit ds) all in
    let ends = digit_ends d parts.0 in
    (omega (arith, digit_value-ascii d parts.0), all_digits ds parts.1)

all_take : (ds : List ℕ) (i : ℕ) → list_all is_ascii_digit ds ≡ true → list_all is_ascii_digit (take i ds) ≡ true
all_take ds zero all = refl
all_take [] (suc i) all = refl
all_take (d ∷ ds) (suc i) all =
    let parts = and_parts (is_ascii_digit d) (list_all is_ascii_digit ds) all in
    and_from (is_ascii_digit d) (list_all is_ascii_digit (take i ds)) parts.0 (all_take ds i parts.1)

-- a digit of 19 that is read after i others, and what it makes of their number
pub record ReadsDigit (ds : List ℕ) (i : ℕ) : Type 0 where
  pub low : 48 ≤ get_or ds i 0
  pub high : get_or ds i 0 ≤ 57
  pub few : digits_value 10 (take i ds) < 10 ^ 18
  pub more : digits_value 10 (take (i + 1) ds) ≡ digits_value 10 (take i ds) * 10 + (get_or ds i 0 - 48)

pub reads_digit : (ds : List ℕ) (i : ℕ) → list_all is_ascii_digit ds ≡ true → length ds ≤ 19 → i < length ds → ReadsDigit ds i
reads_digit ds i all few within =
    let ends = digit_ends (get_or ds i 0) (digit_here ds i all within) in
    let below = digits_value-lt 10 (take i ds) (all_digits (take i ds) (all_take ds i all)) in
    let short : length (take i ds) ≤ 18 = omega (arith, length-take-le i ds (omega arith)) in
    let room = pow-le-pow_right {n = 10} (omega arith) {i = length (take i ds)} {j = 18} short in
    record { low = ends.0; high = ends.1; few = omega (arith, below, room); more = digits_value-more ds i all within }

-- cutting after each step is cutting at the end
pub saturated-step : (n d : ℕ) → min (min (min n (2 ^ 128 - 1) * 10) (2 ^ 128 - 1) + d) (2 ^ 128 - 1) ≡ min (n * 10 + d) (2 ^ 128 - 1)
saturated-step n d = omega arith

-- ---- the number of a text

pub natural_of-digits : (ds : List ℕ) → 0 < length ds → list_all is_ascii_digit ds ≡ true → natural_of ds ≡ Some (digits_value 10 ds)
natural_of-digits [] some all = absurd (omega arith)
natural_of-digits (d ∷ ds) some all = rw all refl

pub natural_of-other : (ds : List ℕ) → list_all is_ascii_digit ds ≡ false → natural_of ds ≡ None
natural_of-other [] other = refl
natural_of-other (d ∷ ds) other = rw other refl

-- the text is one or more digits, and this is their number
pub record IsNatural (ds : List ℕ) (n : ℕ) : Type 0 where
  pub all : list_all is_ascii_digit ds ≡ true
  pub some : 0 < length ds
  pub value : digits_value 10 ds ≡ n

pub natural_of-some : (ds : List ℕ) (n : ℕ) → natural_of ds ≡ Some n → IsNatural ds n
natural_of-some [] n e = absurd cc
natural_of-some (d ∷ ds) n e =
    elim (chosen (list_all is_ascii_digit (d ∷ ds)) (Some (digits_value 10 (d ∷ ds))) None (Some n) e) [
      | inl h ↦ record { all = h.0; some = omega arith; value = cc }
      | inr h ↦ absurd cc
    ]

all_ascii : (ds : List ℕ) → ((i : ℕ) → i < length ds → is_ascii_digit (get_or ds i 0) ≡ true) → list_all is_ascii_digit ds ≡ true
all_ascii [] each = refl
all_ascii (d ∷ ds) each = and_from (is_ascii_digit d) (list_all is_ascii_digit ds) (each 0 (omega arith)) (all_ascii ds (λ i within. each (suc i) (omega arith)))

-- what is printed of a number is read as that number
pub natural_of-decimal : (n : ℕ) → n < 10 ^ 64 → natural_of (decimal n) ≡ Some n
natural_of-decimal n small =
    let is = decimal_is_IsNumeral_wide n small in
    natural_of-digits (decimal n) is.0.0 (all_ascii (decimal n) (λ i within. let digit = digit_at (decimal n) i is.0.1 within in grind (arith, nat_tests))) ∙ ap Some is.1

-- a text whose digits reach to its end
pub front_all : (ds : List ℕ) (n : ℕ) → n ≡ prefix_len is_ascii_digit ds → length ds ≤ n → list_all is_ascii_digit ds ≡ true
front_all ds n e long =
    let whole : take (prefix_len is_ascii_digit ds) ds ≡ ds = take_all (prefix_len is_ascii_digit ds) ds (omega arith) in
    rw whole at (front_passes is_ascii_digit ds)

front_step : (ds : List ℕ) (all : Bool) → list_all is_ascii_digit ds ≡ all → prefix_len is_ascii_digit ds < length ds → all ≡ false
front_step ds false e less = refl
front_step ds true e less =
    let whole = prefix_len-cut is_ascii_digit ds [] e tt in
    let same : prefix_len is_ascii_digit (ds ++ []) ≡ prefix_len is_ascii_digit ds = ap (prefix_len is_ascii_digit) (append-nil ds) in
    absurd (omega arith)

-- where digits end before the text does, it writes no number
pub natural_of-short : (ds : List ℕ) (n : ℕ) → n ≡ prefix_len is_ascii_digit ds → n < length ds → natural_of ds ≡ None
natural_of-short ds n e less = natural_of-other ds (front_step ds (list_all is_ascii_digit ds) refl (omega arith))

-- ---- the number at the front of a text

-- the digits of the number, and a rest that they don't reach into
pub record IsNaturalAt (text : List ℕ) (found : ℕ × List ℕ) : Type 0 where
  pub digits : List ℕ
  pub cut : text ≡ digits ++ found.1
  pub natural : natural_of digits ≡ Some found.0
  pub ends : StopsAt is_ascii_digit found.1

pub natural_at-cut : (text : List ℕ) (found : ℕ × List ℕ) → natural_at text ≡ Some found → IsNaturalAt text found
unfolding natural_at
natural_at-cut text found e =
    let n = prefix_len is_ascii_digit text in
    let h = mapped (λ number. (number, drop n text)) (natural_of (take n text)) found e in
    let rest : drop n text ≡ found.1 = ap (λ f. f.1) h.1.1 in
    let number : h.0 ≡ found.0 = ap (λ f. f.0) h.1.1 in
    record {
      digits = take n text;
      cut = sym (take-append-drop n text) ∙ ap (λ more. take n text ++ more) rest;
      natural = h.1.0 ∙ ap Some number;
      ends = rw (← rest) (rest_stops is_ascii_digit text);
    }

pub natural_at-shorter : (text : List ℕ) (found : ℕ × List ℕ) → natural_at text ≡ Some found → length found.1 < length text
natural_at-shorter text found e =
    let at = natural_at-cut text found e in
    let some = (natural_of-some at.digits found.0 at.natural).some in
    let long = ap length at.cut ∙ length-append at.digits found.1 in
    omega arith

-- the other way
pub natural_at-again : (digits rest : List ℕ) (n : ℕ) → natural_of digits ≡ Some n → StopsAt is_ascii_digit rest → natural_at (digits ++ rest) ≡ Some (n, rest)
unfolding natural_at
natural_at-again digits rest n is stops =
    let told = natural_of-some digits n is in
    let size : prefix_len is_ascii_digit (digits ++ rest) ≡ length digits = prefix_len-cut is_ascii_digit digits rest told.all stops in
    let front : take (length digits) (digits ++ rest) ≡ digits = take_at digits rest (length digits) refl in
    let back : drop (length digits) (digits ++ rest) ≡ rest = drop_at digits rest (length digits) refl in
    rw (size, front, back, is) refl
