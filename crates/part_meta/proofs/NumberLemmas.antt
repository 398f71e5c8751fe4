-- Numbers in decimal, without a sign and without leading zeros.
use Rattle.std.proofs.Common.{◌≡◌, ◌≢◌, ℕ, ◌+◌, ◌<◌, ◌≤◌, ◌^◌, ◌==◌, ◌||◌, not, true, false, List, [], ◌∷◌, ◌++◌, length, get_or, refl, sym, ap, ◌∙◌, subst, arith, rules, decimal, Ok, ne_eqb, eqb-true, inl, inr, Option, Some, None, MatchOption}
use Rattle.std.specs.Char.{is_ascii_digit}
use Rattle.std.specs.Str.Parse.{AllDigits, IsNumeral, ParsesUnsigned, digits_value, without_leading_plus}
use Rattle.std.proofs.lemmas.List.{append_cancel_left}
use Rattle.std.proofs.lemmas.Bool.{cases_lt, and_parts}
use Rattle.std.proofs.lemmas.Bool.Decides.{nat_tests}
use Rattle.std.proofs.lemmas.Fmt.{decimal_digit, decimal_is_IsNumeral, decimal-digits_value, decimal_injective, first_decimal}
use Rattle.std.proofs.lemmas.Str.Parse.{IsNumeralModel, numerals_by_value, digit_at}
use Rattle.part_meta.specs.Numbers.{begins_plainly}

own : IsNumeralModel (AllDigits 10) (digits_value 10)
own = numerals_by_value (AllDigits 10) (search rules)

one_digit : (n : ℕ) → n < 10 → begins_plainly ((48 + n) ∷ []) ≡ true
one_digit n small = grind (arith, nat_tests)

above_zero : (d : ℕ) (ds : List ℕ) → 48 < d → d ≤ 57 → begins_plainly (d ∷ ds) ≡ true
above_zero d ds low high =
    let digit : is_ascii_digit d ≡ true = grind (arith, nat_tests) in
    let other : (d == 48) ≡ false = ne_eqb d 48 (omega arith) in
    rw (digit, other) refl

more_digits : (ds : List ℕ) → 0 < length ds → AllDigits 10 ds → 48 < get_or ds 0 0 → begins_plainly ds ≡ true
more_digits [] some each first = absurd (omega arith)
more_digits (d ∷ ds) some each first = above_zero d ds first (digit_at (d ∷ ds) 0 each some).1

-- what `decimal` writes begins so
pub decimal_begins_plainly : (n : ℕ) → n < 2 ^ 64 → begins_plainly (decimal n) ≡ true
decimal_begins_plainly n small =
    elim (cases_lt n 10) [
      | inl one ↦ (let is : decimal n ≡ (48 + n) ∷ [] = decimal_digit n one in rw is (one_digit n one))
      | inr many ↦ (let numeral = decimal_is_IsNumeral n small in more_digits (decimal n) numeral.0.0 numeral.0.1 (first_decimal n (omega arith) small))
    ]

no_plus : (d : ℕ) (ds : List ℕ) → is_ascii_digit d ≡ true → without_leading_plus (d ∷ ds) ≡ d ∷ ds
no_plus d ds digit =
    let other : (d == 43) ≡ false = ne_eqb d 43 (λ e. let P : ℕ → Type 0 = λ x. is_ascii_digit x ≡ true in let bad : is_ascii_digit 43 ≡ true = subst P e digit in absurd (cc)) in
    rw other refl

one_if_zero : (d : ℕ) (ds : List ℕ) → (not (d == 48) || (length ds == 0)) ≡ true → d ≡ 48 → length (d ∷ ds) ≡ 1
one_if_zero d ds h e =
    let P : ℕ → Type 0 = λ x. (not (x == 48) || (length ds == 0)) ≡ true in
    let last : (length ds == 0) ≡ true = subst P e h in
    omega (arith, eqb-true (length ds) 0 last)

-- and a number that is read from bytes that begin so is written so
pub plainly_parsed : (E : Type 0) (bytes : List ℕ) (n : ℕ) → begins_plainly bytes ≡ true → ParsesUnsigned {E = E} 32 10 bytes (Ok n) → bytes ≡ decimal n
plainly_parsed E [] n plain parsed = absurd (cc)
plainly_parsed E (d ∷ ds) n plain parsed =
    let parts = and_parts (is_ascii_digit d) (not (d == 48) || (length ds == 0)) plain in
    let same : without_leading_plus (d ∷ ds) ≡ d ∷ ds = no_plus d ds parts.0 in
    let P : List ℕ → Type 0 = λ t. (IsNumeral 10 t × (digits_value 10 t < 2 ^ 32)) × (n ≡ digits_value 10 t) in
    let read : P (d ∷ ds) = subst P same (parsed.0, parsed.1) in
    sym (ap decimal read.1 ∙ decimal-digits_value own (d ∷ ds) read.0.0.1 read.0.0.0 (one_if_zero d ds parts.1) (omega (arith, read.0.1)))

-- a number behind a label
pub behind_label : (r : Option ℕ) (text label digits : List ℕ) → text ≡ label ++ digits
    → MatchOption r ((n : ℕ) → n < 2 ^ 32 → digits ≢ decimal n) (λ n. digits ≡ decimal n)
    → MatchOption r ((n : ℕ) → n < 2 ^ 32 → text ≢ label ++ decimal n) (λ n. text ≡ label ++ decimal n)
behind_label None text label digits cut none = λ n small is. none n small (append_cancel_left label digits (decimal n) (sym cut ∙ is))
behind_label (Some n) text label digits cut is = cut ∙ ap (λ t. label ++ t) is

pub label_told : (text label : List ℕ) (m n : ℕ) → m < 2 ^ 64 → n < 2 ^ 64 → text ≡ label ++ decimal m → text ≡ label ++ decimal n → m ≡ n
label_told text label m n a b e f = decimal_injective m n a b (append_cancel_left label (decimal m) (decimal n) (sym e ∙ f))
