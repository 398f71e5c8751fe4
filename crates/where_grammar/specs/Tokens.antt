-- Which tokens a text spells.
use Rattle.std.specs.Prelude.{◌≡◌, ℕ, ◌-◌, ◌^◌, nat_lt, Bool, true, false, ◌&&◌, ◌||◌, if◌then◌else◌, ◌==◌, List, [], ◌∷◌, ◌++◌, length, take, drop, Option, Some, None, is_some, Result, Ok, Err, ℤ, pos, neg_ℤ, int_le}
use Rattle.std.proofs.Common.{Bor}
use Rattle.std.specs.Option.{option_map}
use Rattle.std.specs.List.{prefix_len, list_all}
use Rattle.std.specs.Char.{is_ascii_digit, is_ascii_lowercase, is_ascii_uppercase}
use Rattle.std.specs.Str.{str_to_ascii_lowercase}
use Rattle.fb_types.specs.Field.{whole_of}
use Rattle.lexing.specs.Blanks.{StopsAt}
use Rattle.lexing.specs.Digits.{natural_at, signed}
use Rattle.lexing.specs.Tokens as lexing
use Rattle.where_grammar.specs.Limits.{most_text}
use Rattle.where_grammar.specs.declared.clause.QueryKind.{QueryKind}
use Rattle.where_grammar.specs.declared.clause.QueryKind.TheVariants as kind
use Rattle.where_grammar.specs.declared.clause.Op.TheVariants as op
use Rattle.where_grammar.specs.declared.token.Sign.{Sign}
use Rattle.where_grammar.specs.declared.token.Sign.TheVariants as sign
use Rattle.where_grammar.specs.declared.token.Token.{Token}
use Rattle.where_grammar.specs.declared.token.Token.TheVariants as t
use Rattle.where_grammar.specs.declared.token.Placed.{Placed}

-- ---- bytes

-- a letter or `_` (95)
abbrev pub begins_word : ℕ → Bool
begins_word b = is_ascii_lowercase b || is_ascii_uppercase b || b == 95

abbrev pub in_word : ℕ → Bool
in_word b = begins_word b || is_ascii_digit b

-- ---- numbers

-- the number is one of signed 128 bits
abbrev pub fits_128 : ℤ → Bool
fits_128 z = int_le (neg_ℤ (pos (2 ^ 127))) z && int_le z (pos (2 ^ 127 - 1))

-- ---- signs

-- those of two bytes: `<=` `>=` `==` `!=` `<>` `&&` `||`
abbrev pub double_sign : ℕ → ℕ → Option Sign
double_sign a b =
    if a == 60 && b == 61 then Some (sign.Op op.LessEq) else (if a == 62 && b == 61 then Some (sign.Op op.GreaterEq)
    else (if a == 61 && b == 61 then Some (sign.Op op.Equal) else (if a == 33 && b == 61 then Some (sign.Op op.Differs)
    else (if a == 60 && b == 62 then Some (sign.Op op.Differs) else (if a == 38 && b == 38 then Some sign.And
    else (if a == 124 && b == 124 then Some sign.Or else None))))))

-- those of one byte: `<` `>` `=` `!` `(` `)` `,` `*`
abbrev pub single_sign : ℕ → Option Sign
single_sign b =
    if b == 60 then Some (sign.Op op.Less) else (if b == 62 then Some (sign.Op op.Greater) else (if b == 61 then Some (sign.Op op.Equal)
    else (if b == 33 then Some sign.Not else (if b == 40 then Some sign.Open else (if b == 41 then Some sign.Close
    else (if b == 44 then Some sign.Comma else (if b == 42 then Some sign.Star else None)))))))

-- ---- what a text spells

-- a letter or `_`, and then letters, digits and `_`
abbrev pub is_word : List ℕ → Bool
is_word [] = false
is_word (b ∷ bs) = begins_word b && list_all in_word bs

-- the sign that is written so
abbrev pub sign_of : List ℕ → Option Sign
sign_of [] = None
sign_of (a ∷ []) = single_sign a
sign_of (a ∷ b ∷ []) = double_sign a b
sign_of (a ∷ b ∷ c ∷ bs) = None

-- a double or a single quote
abbrev pub is_quote : ℕ → Bool
is_quote b = b == 34 || b == 39

-- a text with each such quote in it written twice
abbrev pub doubled : ℕ → List ℕ → List ℕ
doubled quote [] = []
doubled quote (b ∷ bs) = if b == quote then quote ∷ quote ∷ doubled quote bs else b ∷ doubled quote bs

-- a text between two quotes
pub record IsQuoted (form word : List ℕ) : Type 0 where
  pub quote : ℕ
  pub is_one : is_quote quote ≡ true
  pub cut : form ≡ quote ∷ (doubled quote word ++ quote ∷ [])

-- the byte is the first one of the form
abbrev pub is_first : List ℕ → ℕ → Bool
is_first [] b = false
is_first (first ∷ form) b = b == first

-- the form of a token; its number and its text may be of any size
abbrev pub IsWritten : List ℕ → Token → Type 0
IsWritten form (t.Word word) = (is_word form ≡ true) × (word ≡ str_to_ascii_lowercase form)
IsWritten form (t.Number z) = whole_of form ≡ Some z
IsWritten form (t.Text word) = IsQuoted form word
IsWritten form (t.Sign s) = sign_of form ≡ Some s

-- a byte that would make the token longer
abbrev pub goes_on : List ℕ → Token → ℕ → Bool
goes_on form (t.Word word) b = in_word b
goes_on form (t.Number z) b = is_ascii_digit b
goes_on form (t.Text word) b = is_first form b
goes_on form (t.Sign s) b = is_some (sign_of (form ++ b ∷ []))

-- the form of the token, and a rest that it doesn't reach into
pub record IsInFront (text : List ℕ) (token : Token) (rest : List ℕ) : Type 0 where
  pub form : List ℕ
  pub cut : text ≡ form ++ rest
  pub written : IsWritten form token
  pub ends : StopsAt (goes_on form token) rest

-- the limit that a token passes: numbers are those of signed 128 bits, and a text has at most 65,535 bytes
abbrev pub excess : Token → Option QueryKind
excess (t.Word word) = None
excess (t.Number z) = if fits_128 z then None else Some kind.Literal
excess (t.Text word) = if nat_lt most_text (length word) then Some kind.TextLength else None
excess (t.Sign s) = None

-- a token at this place, within the limits
pub record IsToken (at : ℕ) (text : List ℕ) (placed : Placed) (rest : List ℕ) : Type 0 where
  pub place : placed.at ≡ at
  pub front : IsInFront text placed.token rest
  pub within : excess placed.token ≡ None

-- a token that passes a limit
pub record IsExcess (text : List ℕ) (kind : QueryKind) : Type 0 where
  pub token : Token
  pub rest : List ℕ
  pub front : IsInFront text token rest
  pub passed : excess token ≡ Some kind

-- what is wrong where a token has to stand: there is none, or it passes a limit
abbrev pub IsWrong : List ℕ → QueryKind → Type 0
IsWrong text kind.Syntax = (token : Token) (rest : List ℕ) → IsInFront text token rest → ⊥
IsWrong text kind = IsExcess text kind

-- The tokens, each as long as it can be, with blanks between, before and after.
abbrev pub Spells : List ℕ → List Placed → Type 0
Spells text tokens = lexing.Spells IsToken (length text) text tokens

-- The first place at which something is wrong has this.
abbrev pub StopsWith : List ℕ → QueryKind → Type 0
StopsWith text kind = lexing.StopsWith IsToken IsWrong (length text) text kind

-- ---- the same, as a function

-- the word at the front, in lower case, and what follows it
unfoldable pub word_at : List ℕ → Token × List ℕ
word_at text = let n = prefix_len in_word text in (t.Word (str_to_ascii_lowercase (take n text)), drop n text)

-- the number whose digits, one or more, stand at the front, and what follows them
unfoldable pub number_at : Bool → List ℕ → Option (Token × List ℕ)
number_at is_negative text = option_map (λ found. (t.Number (signed is_negative found.0), found.1)) (natural_at text)

abbrev pub with_byte : ℕ → Option (List ℕ × List ℕ) → Option (List ℕ × List ℕ)
with_byte b found = option_map (λ f. (b ∷ f.0, f.1)) found

-- the text up to the quote that ends it, and what follows that
abbrev pub unquoted : ℕ → List ℕ → Option (List ℕ × List ℕ)
unquoted quote [] = None
unquoted quote (b ∷ []) = if b == quote then Some ([], []) else None
unquoted quote (b ∷ c ∷ bs) =
    if b == quote then (if c == quote then with_byte quote (unquoted quote bs) else Some ([], c ∷ bs))
    else with_byte b (unquoted quote (c ∷ bs))

unfoldable pub text_at : ℕ → List ℕ → Option (Token × List ℕ)
text_at quote text = option_map (λ f. (t.Text f.0, f.1)) (unquoted quote text)

abbrev pub single_before : ℕ → List ℕ → Option (Token × List ℕ)
single_before b rest = option_map (λ s. (t.Sign s, rest)) (single_sign b)

abbrev pub longest : Option Sign → List ℕ → Option (Token × List ℕ) → Option (Token × List ℕ)
longest None rest shorter = shorter
longest (Some s) rest shorter = Some (t.Sign s, rest)

-- the longest sign at the front, and what follows it
unfoldable pub sign_at : List ℕ → Option (Token × List ℕ)
sign_at [] = None
sign_at (a ∷ []) = single_before a []
sign_at (a ∷ b ∷ rest) = longest (double_sign a b) rest (single_before a (b ∷ rest))

-- the token at the front, as long as it can be, and what follows it; a sign `+` (43) or `-` (45) stands directly
-- before the digits
unfoldable pub token_at : List ℕ → Option (Token × List ℕ)
token_at [] = None
token_at (b ∷ bs) =
    if b == 45 then number_at true bs
    else (if b == 43 then number_at false bs
    else (if is_ascii_digit b then number_at false (b ∷ bs)
    else (if begins_word b then Some (word_at (b ∷ bs))
    else (if is_quote b then text_at b bs else sign_at (b ∷ bs)))))

abbrev pub limited : Token × List ℕ → Option QueryKind → Result (Token × List ℕ) QueryKind
limited found None = Ok found
limited found (Some kind) = Err kind

abbrev pub within_limits : Option (Token × List ℕ) → Result (Token × List ℕ) QueryKind
within_limits None = Err kind.Syntax
within_limits (Some found) = limited found (excess found.0)

-- what a call finds, as contracts see it
abbrev pub seen : {A K : Type 0} → Result (A × Bor (List ℕ)) K → Result (A × List ℕ) K
seen (Ok found) = Ok (found.0, found.1.now)
seen (Err kind) = Err kind

abbrev pub placed_at : ℕ → Result (Token × List ℕ) QueryKind → Result (Placed × List ℕ) QueryKind
placed_at at (Ok found) = Ok (record { at = at; token = found.0 }, found.1)
placed_at at (Err kind) = Err kind

-- the token at the front, within the limits, or what is wrong there
abbrev pub reader : ℕ → List ℕ → Result (Placed × List ℕ) QueryKind
reader at text = placed_at at (within_limits (token_at text))

-- the tokens of a text with their places, or what is wrong first
abbrev pub tokens_of : List ℕ → Result (List Placed) QueryKind
tokens_of text = lexing.tokens_of reader text
