-- How deep tokens nest: open parentheses, and `not`s in a row.
use Rattle.std.specs.Prelude.{ℕ, ◌+◌, ◌-◌, ◌==◌, Bool, true, false, ◌&&◌, ◌||◌, if◌then◌else◌, List, [], ◌∷◌, codes}
use Rattle.std.specs.Str.{bytes_eq}
use Rattle.where_grammar.specs.Limits.{most_nots, most_open}
use Rattle.where_grammar.specs.declared.token.Sign.{Sign}
use Rattle.where_grammar.specs.declared.token.Sign.TheVariants as sign
use Rattle.where_grammar.specs.declared.token.Token.{Token}
use Rattle.where_grammar.specs.declared.token.Token.TheVariants as t

abbrev pub is_word : List ℕ → Token → Bool
is_word text (t.Word word) = bytes_eq word text
is_word text (t.Number z) = false
is_word text (t.Text word) = false
is_word text (t.Sign s) = false

abbrev pub same_sign : Sign → Sign → Bool
same_sign sign.And sign.And = true
same_sign sign.Or sign.Or = true
same_sign sign.Not sign.Not = true
same_sign sign.Open sign.Open = true
same_sign sign.Close sign.Close = true
same_sign sign.Comma sign.Comma = true
same_sign sign.Star sign.Star = true
same_sign _ _ = false

-- the token is this sign, which is no operator
abbrev pub is_sign : Sign → Token → Bool
is_sign sign (t.Word word) = false
is_sign sign (t.Number z) = false
is_sign sign (t.Text word) = false
is_sign sign (t.Sign s) = same_sign sign s

abbrev pub is_open : Token → Bool
is_open = is_sign sign.Open

abbrev pub is_close : Token → Bool
is_close = is_sign sign.Close

abbrev pub is_not : Token → Bool
is_not token = is_word (codes "not") token || is_sign sign.Not token

-- how many more may be open behind the token
abbrev pub room_after : Token → ℕ → ℕ
room_after token room = if is_open token then room - 1 else (if is_close token then room + 1 else room)

-- more are open at some place than there is room for; `)` makes room, also where none is open
abbrev pub is_crowded : ℕ → List Token → Bool
is_crowded room [] = false
is_crowded room (token ∷ tokens) = is_open token && room == 0 || is_crowded (room_after token room) tokens

-- behind n `not`s in a row, more than 16 come together at some place
abbrev pub is_much_negated : ℕ → List Token → Bool
is_much_negated n [] = false
is_much_negated n (token ∷ tokens) = if is_not token then n == most_nots || is_much_negated (n + 1) tokens else is_much_negated 0 tokens

-- at some token more than 64 parentheses are open, or more than 16 `not`s stand in a row
abbrev pub is_deep : List Token → Bool
is_deep tokens = is_crowded most_open tokens || is_much_negated 0 tokens
