-- Which tokens a text spells.
use Rattle.std.specs.Prelude.{◌≡◌, ℕ, ◌^◌, min, Bool, true, false, ◌&&◌, ◌||◌, if◌then◌else◌, ◌==◌, nat_le, List, [], ◌∷◌, ◌++◌, length, take, drop, Option, Some, None, Result, Ok, Err, ℤ, codes}
use Rattle.std.specs.Option.{option_map}
use Rattle.std.specs.List.{prefix_len}
use Rattle.std.specs.Char.{is_ascii_digit}
use Rattle.lexing.specs.Blanks.{StopsAt}
use Rattle.lexing.specs.Digits.{natural_at, natural_of, signed}
use Rattle.lexing.specs.Tokens as lexing
use Rattle.index_spec.specs.Words.{spelling, word_of}
use Rattle.index_spec.specs.declared.token.NoToken.{NoToken}
use Rattle.index_spec.specs.declared.token.Token.{Token}
use Rattle.index_spec.specs.declared.token.Token.TheVariants as t

-- ---- bytes

abbrev pub is_letter : ℕ → Bool
is_letter b = nat_le 97 b && nat_le b 122

-- a letter or `-`
abbrev pub in_word : ℕ → Bool
in_word b = is_letter b || b == 45

-- ---- numbers

-- a magnitude is told up to 2^64, which passes each limit on numbers
abbrev pub magnitude : ℕ → ℕ
magnitude n = min n (2 ^ 64)

-- ---- what a text spells

abbrev pub minus : Bool → List ℕ
minus true = 45 ∷ []
minus false = []

-- An optional `-` and at least one digit.
pub record IsNumeral (form : List ℕ) (z : ℤ) : Type 0 where
  pub is_negative : Bool
  pub digits : List ℕ
  pub number : ℕ
  pub written : form ≡ minus is_negative ++ digits
  pub natural : natural_of digits ≡ Some number
  pub value : z ≡ signed is_negative (magnitude number)

-- the form of a token
abbrev pub IsWritten : List ℕ → Token → Type 0
IsWritten form t.Less = form ≡ codes "<"
IsWritten form t.Slash = form ≡ codes "/"
IsWritten form t.Greater = form ≡ codes ">"
IsWritten form t.Equals = form ≡ codes "="
IsWritten form t.Open = form ≡ codes "("
IsWritten form t.Close = form ≡ codes ")"
IsWritten form t.Comma = form ≡ codes ","
IsWritten form (t.Word w) = form ≡ spelling w
IsWritten form (t.Number z) = IsNumeral form z

-- a word or a number is as long as it can be
abbrev pub EndsAt : Token → List ℕ → Type 0
EndsAt (t.Word w) rest = StopsAt in_word rest
EndsAt (t.Number z) rest = StopsAt is_ascii_digit rest
EndsAt _ rest = Unit {0}

-- the form of the token, and a rest that it doesn't reach into
pub record IsInFront (text : List ℕ) (token : Token) (rest : List ℕ) : Type 0 where
  pub form : List ℕ
  pub cut : text ≡ form ++ rest
  pub written : IsWritten form token
  pub ends : EndsAt token rest

abbrev pub IsToken : ℕ → List ℕ → Token → List ℕ → Type 0
IsToken at text token rest = IsInFront text token rest

-- The tokens, one after the other, with blanks between, before and after.
abbrev pub Spells : List ℕ → List Token → Type 0
Spells text tokens = lexing.Spells IsToken (length text) text tokens

-- ---- the same, as a function

abbrev pub sign_of : ℕ → Option Token
sign_of b =
    if b == 60 then Some t.Less else (if b == 47 then Some t.Slash else (if b == 62 then Some t.Greater
    else (if b == 61 then Some t.Equals else (if b == 40 then Some t.Open else (if b == 41 then Some t.Close
    else (if b == 44 then Some t.Comma else None))))))

unfoldable pub word_at : List ℕ → Option (Token × List ℕ)
word_at text =
    let n = prefix_len in_word text in
    option_map (λ w. (t.Word w, drop n text)) (word_of (take n text))

unfoldable pub number_at : Bool → List ℕ → Option (Token × List ℕ)
number_at is_negative text = option_map (λ found. (t.Number (signed is_negative (magnitude found.0)), found.1)) (natural_at text)

-- the token at the front, and what follows it
unfoldable pub token_at : List ℕ → Option (Token × List ℕ)
token_at [] = None
token_at (b ∷ bs) =
    if b == 45 then number_at true bs
    else (if is_letter b then word_at (b ∷ bs)
    else (if is_ascii_digit b then number_at false (b ∷ bs)
    else option_map (λ t. (t, bs)) (sign_of b)))

abbrev pub told : Option (Token × List ℕ) → Result (Token × List ℕ) NoToken
told None = Err (record {})
told (Some found) = Ok found

abbrev pub reader : ℕ → List ℕ → Result (Token × List ℕ) NoToken
reader at text = told (token_at text)

abbrev pub all_or_none : Result (List Token) NoToken → Option (List Token)
all_or_none (Ok tokens) = Some tokens
all_or_none (Err fault) = None

unfoldable pub tokens_of : List ℕ → Option (List Token)
tokens_of text = all_or_none (lexing.tokens_of reader text)
