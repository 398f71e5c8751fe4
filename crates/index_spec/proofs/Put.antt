-- Tokens put before a text that is spelled.
use Rattle.std.proofs.Common.{◌≡◌, ℕ, suc, ◌^◌, ◌≤◌, ◌<◌, Bool, true, false, List, [], ◌∷◌, ◌++◌, length, refl, sym, ap, subst, ◌∙◌, append_assoc, arith, ℤ, pos, negsuc}
use Rattle.std.specs.Char.{is_ascii_digit}
use Rattle.std.specs.Fmt.{decimal, signed_decimal}
use Rattle.std.proofs.lemmas.Fmt.{length-decimal-le}
use Rattle.std.proofs.lemmas.Int.{ints}
use Rattle.index_spec.specs.declared.token.Token.{Token}
use Rattle.index_spec.specs.declared.token.Token.TheVariants as t
use Rattle.lexing.specs.Blanks.{StopsAt}
use Rattle.lexing.specs.Tokens as lexing
use Rattle.index_spec.specs.Tokens.{minus, magnitude, IsNumeral, IsWritten, EndsAt, IsToken, Spells}
use Rattle.index_spec.specs.Language.{IsInRange}
use Rattle.lexing.specs.Digits.{signed}
use Rattle.lexing.proofs.DigitLemmas.{natural_of-decimal}
use Rattle.lexing.proofs.Laws.{blank_before, token_before}

-- the size of the whole text decides nothing here
sized : (m n : ℕ) (text : List ℕ) (ts : List Token) → lexing.Spells IsToken m text ts → lexing.Spells IsToken n text ts
sized m n text [] spells = spells
sized m n text (token ∷ ts) spells =
    let at = spells.1.0 in
    (spells.0, (record { blanks = at.blanks; behind = at.behind; cut = at.cut; all_blank = at.all_blank; here = at.here }, sized m n spells.0 ts spells.1.1))

pub put : (token : Token) (form rest : List ℕ) (ts : List Token) → IsWritten form token → EndsAt token rest → Spells rest ts → Spells (form ++ rest) (token ∷ ts)
put token form rest ts written ends spells =
    token_before IsToken (length (form ++ rest)) (form ++ rest) token rest ts (record { form = form; cut = refl; written = written; ends = ends }) (sized (length rest) (length (form ++ rest)) rest ts spells)

pub put_blank : (rest : List ℕ) (ts : List Token) → Spells rest ts → Spells (32 ∷ rest) ts
put_blank rest ts spells = blank_before IsToken (length (32 ∷ rest)) 32 rest ts refl (sized (length rest) (length (32 ∷ rest)) rest ts spells)

decimal_is : (is_negative : Bool) (n : ℕ) (z : ℤ) → n < 2 ^ 64 → z ≡ signed is_negative n → IsNumeral (minus is_negative ++ decimal n) z
decimal_is is_negative n z small e =
    let told : magnitude n ≡ n = omega arith in
    record { is_negative = is_negative; digits = decimal n; number = n; written = refl; natural = natural_of-decimal n (omega arith); value = e ∙ ap (signed is_negative) (sym told) }

pub number_is : (z : ℤ) → IsInRange z → IsNumeral (signed_decimal z) z
number_is (pos n) range = let high = range.1 in decimal_is false n (pos n) (omega (arith, ints)) refl
number_is (negsuc n) range = let low = range.0 in decimal_is true (suc n) (negsuc n) (omega (arith, ints)) refl

pub put_number : (z : ℤ) (rest : List ℕ) (ts : List Token) → IsInRange z → StopsAt is_ascii_digit rest → Spells rest ts → Spells (signed_decimal z ++ rest) (t.Number z ∷ ts)
put_number z rest ts range stops spells = put (t.Number z) (signed_decimal z) rest ts (number_is z range) stops spells

-- the same where more stands behind the number in the text that is followed
pub put_number_in : (z : ℤ) (more rest : List ℕ) (ts : List Token) → IsInRange z → StopsAt is_ascii_digit (more ++ rest) → Spells (more ++ rest) ts → Spells ((signed_decimal z ++ more) ++ rest) (t.Number z ∷ ts)
put_number_in z more rest ts range stops spells =
    subst (λ x. Spells x (t.Number z ∷ ts)) (sym (append_assoc (signed_decimal z) more rest)) (put_number z (more ++ rest) ts range stops spells)

pub count_in_range : (n : ℕ) → n ≤ 100000 → IsInRange (pos n)
count_in_range n small = (omega (arith, ints), omega (arith, ints))

pub length-number : (z : ℤ) → IsInRange z → length (signed_decimal z) ≤ 20
length-number (pos n) range = let high = range.1 in let small : n < 2 ^ 64 = omega (arith, ints) in length-decimal-le 20 n (omega arith) (omega arith) small
length-number (negsuc n) range =
    let low = range.0 in
    let small : suc n ≤ 2 ^ 63 = omega (arith, ints) in
    let l = length-decimal-le 19 (suc n) (omega arith) (omega arith) (omega arith) in
    omega arith
