-- The one printed form of a clause, and what is read from it.
use Rattle.std.specs.Prelude.{◌≡◌, ℕ, Bool, true, false, ◌||◌, nat_lt, if◌then◌else◌, List, [], ◌∷◌, ◌++◌, length, map, Result, Ok, Err, codes}
use Rattle.std.specs.Fmt.{signed_decimal}
use Rattle.std.specs.List.{list_all, list_any}
use Rattle.where_grammar.specs.declared.clause.Op.{Op}
use Rattle.where_grammar.specs.declared.clause.Op.TheVariants as op
use Rattle.where_grammar.specs.declared.clause.Atom.{Atom}
use Rattle.where_grammar.specs.declared.clause.Atom.TheVariants as atom
use Rattle.where_grammar.specs.declared.clause.Clause.{Clause}
use Rattle.where_grammar.specs.declared.clause.Clause.TheOpen.{Clause-F}
use Rattle.where_grammar.specs.declared.clause.Clause.TheFolds.{fold-Clause}
use Rattle.where_grammar.specs.declared.clause.QueryKind.{QueryKind}
use Rattle.where_grammar.specs.declared.clause.QueryKind.TheVariants as kind
use Rattle.where_grammar.specs.declared.token.Sign.{Sign}
use Rattle.where_grammar.specs.declared.token.Sign.TheVariants as sign
use Rattle.where_grammar.specs.declared.token.Token.{Token}
use Rattle.where_grammar.specs.declared.token.Token.TheVariants as t
use Rattle.where_grammar.specs.Limits.{most_bytes, most_items, most_text}
use Rattle.where_grammar.specs.Tokens.{doubled, fits_128}
use Rattle.where_grammar.specs.Nesting.{is_open, is_close, is_sign, is_deep}
use Rattle.where_grammar.specs.Grammar.{IsClause, behind_commas, closing, keyword, opening, operator, turned}

-- ---- the tokens of the print

-- items with commas between
abbrev pub with_commas : List Token → List Token
with_commas [] = []
with_commas (item ∷ items) = item ∷ behind_commas items

abbrev pub list_tokens : List ℕ → List Token → List Token
list_tokens name items = keyword name ∷ keyword (codes "in") ∷ opening ∷ (with_commas items ++ closing ∷ [])

abbrev pub atom_tokens : Atom → List Token
atom_tokens (atom.Compare name by value) = keyword name ∷ operator by ∷ t.Number value ∷ []
atom_tokens (atom.Double name left low right high) = t.Number low ∷ operator (turned left) ∷ keyword name ∷ operator right ∷ t.Number high ∷ []
atom_tokens (atom.Between name low high) = keyword name ∷ keyword (codes "between") ∷ t.Number low ∷ keyword (codes "and") ∷ t.Number high ∷ []
atom_tokens (atom.Numbers name list) = list_tokens name (map t.Number list)
atom_tokens (atom.Same name text) = keyword name ∷ operator op.Equal ∷ t.Text text ∷ []
atom_tokens (atom.Other name text) = keyword name ∷ operator op.Differs ∷ t.Text text ∷ []
atom_tokens (atom.Texts name list) = list_tokens name (map t.Text list)
atom_tokens (atom.Like name pattern) = keyword name ∷ keyword (codes "like") ∷ t.Text pattern ∷ []
atom_tokens (atom.Exists name) = keyword (codes "exists") ∷ opening ∷ keyword name ∷ closing ∷ []

-- what a part prints, and whether it is of several parts
pub record Piece : Type 0 where
  pub is_group : Bool
  pub tokens : List Token

-- a part of several parts stands in parentheses
abbrev pub as_part : Piece → List Token
as_part piece = if piece.is_group then opening ∷ (piece.tokens ++ closing ∷ []) else piece.tokens

abbrev pub more_joined : List ℕ → List Piece → List Token
more_joined word [] = []
more_joined word (piece ∷ pieces) = keyword word ∷ (as_part piece ++ more_joined word pieces)

abbrev pub joined : List ℕ → List Piece → List Token
joined word [] = []
joined word (piece ∷ pieces) = as_part piece ++ more_joined word pieces

abbrev pub group_piece : List ℕ → List Piece → Piece
group_piece word pieces = record { is_group = true; tokens = joined word pieces }

abbrev pub piece_by_parts : Clause-F Piece → Piece
piece_by_parts (Clause-F.Or parts) = group_piece (codes "or") parts
piece_by_parts (Clause-F.Xor parts) = group_piece (codes "xor") parts
piece_by_parts (Clause-F.And parts) = group_piece (codes "and") parts
piece_by_parts (Clause-F.Not part) = record { is_group = false; tokens = keyword (codes "not") ∷ as_part part }
piece_by_parts (Clause-F.One condition) = record { is_group = false; tokens = atom_tokens condition }

abbrev pub piece_of : Clause → Piece
piece_of clause = fold-Clause Piece piece_by_parts clause

abbrev pub clause_tokens : Clause → List Token
clause_tokens clause = (piece_of clause).tokens

-- ---- their text

abbrev pub op_text : Op → List ℕ
op_text op.Less = codes "<"
op_text op.LessEq = codes "<="
op_text op.Greater = codes ">"
op_text op.GreaterEq = codes ">="
op_text op.Equal = codes "="
op_text op.Differs = codes "!="

abbrev pub sign_text : Sign → List ℕ
sign_text (sign.Op by) = op_text by
sign_text sign.And = codes "&&"
sign_text sign.Or = codes "||"
sign_text sign.Not = codes "!"
sign_text sign.Open = codes "("
sign_text sign.Close = codes ")"
sign_text sign.Comma = codes ","
sign_text sign.Star = codes "*"

-- texts stand in `"` (34), with each `"` inside them doubled
abbrev pub token_text : Token → List ℕ
token_text (t.Word word) = word
token_text (t.Number z) = signed_decimal z
token_text (t.Text text) = 34 ∷ (doubled 34 text ++ 34 ∷ [])
token_text (t.Sign s) = sign_text s

-- no blank stands before `)` and `,`
abbrev pub is_tight : Token → Bool
is_tight token = is_close token || is_sign sign.Comma token

-- One blank stands before each token, but none at the start, behind `(` and before `)` and `,`.
abbrev pub written : Bool → List Token → List ℕ
written starts [] = []
written starts (token ∷ tokens) = (if starts || is_tight token then [] else 32 ∷ []) ++ (token_text token ++ written (is_open token) tokens)

abbrev pub clause_text : Clause → List ℕ
clause_text clause = written true (clause_tokens clause)

-- ---- what the print reads as

-- the number of a token is one of signed 128 bits
abbrev pub is_fit : Token → Bool
is_fit (t.Word word) = true
is_fit (t.Number z) = fits_128 z
is_fit (t.Text text) = true
is_fit (t.Sign s) = true

-- the grammar gives the clause, of tokens with numbers of 128 bits
abbrev pub IsGiven : Clause → Type 0
IsGiven clause = (tokens : List Token) × IsClause clause tokens × (list_all is_fit tokens ≡ true)

abbrev pub is_long_text : Token → Bool
is_long_text (t.Word word) = false
is_long_text (t.Number z) = false
is_long_text (t.Text text) = nat_lt most_text (length text)
is_long_text (t.Sign s) = false

abbrev pub has_long_list : Atom → Bool
has_long_list (atom.Compare name by value) = false
has_long_list (atom.Double name left low right high) = false
has_long_list (atom.Between name low high) = false
has_long_list (atom.Numbers name list) = nat_lt most_items (length list)
has_long_list (atom.Same name text) = false
has_long_list (atom.Other name text) = false
has_long_list (atom.Texts name list) = nat_lt most_items (length list)
has_long_list (atom.Like name pattern) = false
has_long_list (atom.Exists name) = false

abbrev pub any_by_parts : Clause-F Bool → Bool
any_by_parts (Clause-F.Or parts) = list_any (λ part. part) parts
any_by_parts (Clause-F.Xor parts) = list_any (λ part. part) parts
any_by_parts (Clause-F.And parts) = list_any (λ part. part) parts
any_by_parts (Clause-F.Not part) = part
any_by_parts (Clause-F.One condition) = has_long_list condition

-- some list of the clause has more than 4,096 items
abbrev pub lists_too_much : Clause → Bool
lists_too_much clause = fold-Clause Bool any_by_parts clause

-- The clause again, or the first limit that the print passes.
abbrev pub reread : Clause → Result Clause QueryKind
reread clause =
    if nat_lt most_bytes (length (clause_text clause)) then Err kind.Length
    else (if list_any is_long_text (clause_tokens clause) then Err kind.TextLength
    else (if is_deep (clause_tokens clause) then Err kind.Depth
    else (if lists_too_much clause then Err kind.ListLength else Ok clause)))
