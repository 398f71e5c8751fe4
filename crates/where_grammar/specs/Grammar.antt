-- The grammar of clauses, over tokens.
use Rattle.std.specs.Prelude.{◌≡◌, ℕ, ◌≤◌, Bool, true, ◌||◌, List, [], ◌∷◌, ◌++◌, length, map, Some, ℤ, codes}
use Rattle.fb_types.specs.Names.{column_name}
use Rattle.where_grammar.specs.declared.clause.Op.{Op}
use Rattle.where_grammar.specs.declared.clause.Op.TheVariants as op
use Rattle.where_grammar.specs.declared.clause.Atom.{Atom}
use Rattle.where_grammar.specs.declared.clause.Atom.TheVariants as atom
use Rattle.where_grammar.specs.declared.clause.Clause.{Clause}
use Rattle.where_grammar.specs.declared.clause.Clause.TheVariants as clause
use Rattle.where_grammar.specs.declared.clause.Join.{Join}
use Rattle.where_grammar.specs.declared.clause.Join.TheVariants as join
use Rattle.where_grammar.specs.declared.token.Sign.TheVariants as sign
use Rattle.where_grammar.specs.declared.token.Token.{Token}
use Rattle.where_grammar.specs.declared.token.Token.TheVariants as t
use Rattle.where_grammar.specs.Nesting.{is_word, is_sign, is_not}

-- ---- words and signs

abbrev pub joins : Join → Token → Bool
joins join.Or token = is_word (codes "or") token || is_sign sign.Or token
joins join.Xor token = is_word (codes "xor") token
joins join.And token = is_word (codes "and") token || is_sign sign.And token

abbrev pub opening : Token
opening = t.Sign sign.Open

abbrev pub closing : Token
closing = t.Sign sign.Close

abbrev pub comma : Token
comma = t.Sign sign.Comma

abbrev pub keyword : List ℕ → Token
keyword text = t.Word text

abbrev pub operator : Op → Token
operator by = t.Sign (sign.Op by)

-- the operator with its sides exchanged
abbrev pub turned : Op → Op
turned op.Less = op.Greater
turned op.LessEq = op.GreaterEq
turned op.Greater = op.Less
turned op.GreaterEq = op.LessEq
turned op.Equal = op.Equal
turned op.Differs = op.Differs

-- a comma before each
abbrev pub behind_commas : List Token → List Token
behind_commas [] = []
behind_commas (item ∷ items) = comma ∷ item ∷ behind_commas items

-- ---- conditions

pub data IsAtom : Atom → List Token → Type 0 where
  compared : (word name : List ℕ) (by : Op) (value : ℤ) → column_name word ≡ Some name
      → IsAtom (atom.Compare name by value) (t.Word word ∷ operator by ∷ t.Number value ∷ [])
  turned_round : (word name : List ℕ) (by : Op) (value : ℤ) → column_name word ≡ Some name
      → IsAtom (atom.Compare name (turned by) value) (t.Number value ∷ operator by ∷ t.Word word ∷ [])
  doubled : (word name : List ℕ) (left right : Op) (low high : ℤ) → column_name word ≡ Some name
      → IsAtom (atom.Double name (turned left) low right high) (t.Number low ∷ operator left ∷ t.Word word ∷ operator right ∷ t.Number high ∷ [])
  between : (word name : List ℕ) (low high : ℤ) → column_name word ≡ Some name
      → IsAtom (atom.Between name low high) (t.Word word ∷ keyword (codes "between") ∷ t.Number low ∷ keyword (codes "and") ∷ t.Number high ∷ [])
  numbers : (word name : List ℕ) (first : ℤ) (more : List ℤ) → column_name word ≡ Some name
      → IsAtom (atom.Numbers name (first ∷ more)) (t.Word word ∷ keyword (codes "in") ∷ opening ∷ t.Number first ∷ (behind_commas (map t.Number more) ++ closing ∷ []))
  same : (word name text : List ℕ) → column_name word ≡ Some name
      → IsAtom (atom.Same name text) (t.Word word ∷ operator op.Equal ∷ t.Text text ∷ [])
  other : (word name text : List ℕ) → column_name word ≡ Some name
      → IsAtom (atom.Other name text) (t.Word word ∷ operator op.Differs ∷ t.Text text ∷ [])
  texts : (word name first : List ℕ) (more : List (List ℕ)) → column_name word ≡ Some name
      → IsAtom (atom.Texts name (first ∷ more)) (t.Word word ∷ keyword (codes "in") ∷ opening ∷ t.Text first ∷ (behind_commas (map t.Text more) ++ closing ∷ []))
  like : (word name pattern : List ℕ) → column_name word ≡ Some name
      → IsAtom (atom.Like name pattern) (t.Word word ∷ keyword (codes "like") ∷ t.Text pattern ∷ [])
  exists : (word name : List ℕ) → column_name word ≡ Some name
      → IsAtom (atom.Exists name) (keyword (codes "exists") ∷ opening ∷ t.Word word ∷ closing ∷ [])

-- ---- clauses

abbrev pub group : Join → List Clause → Clause
group join.Or parts = clause.Or parts
group join.Xor parts = clause.Xor parts
group join.And parts = clause.And parts

-- `or` binds parts that are joined by `xor`, these bind parts that are joined by `and`, and these bind units with
-- `not`s before them. One part is itself; a parenthesis is a unit.
mutual
  pub data IsJoined : Join → Clause → List Token → Type 0 where
    alone : (j : Join) (c : Clause) (tokens : List Token) → IsPart j c tokens → IsJoined j c tokens
    several : (j : Join) (parts : List Clause) (tokens : List Token) → 2 ≤ length parts → AreParts j parts tokens → IsJoined j (group j parts) tokens

  pub data AreParts : Join → List Clause → List Token → Type 0 where
    last : (j : Join) (c : Clause) (tokens : List Token) → IsPart j c tokens → AreParts j (c ∷ []) tokens
    more : (j : Join) (c : Clause) (cs : List Clause) (front : List Token) (token : Token) (back : List Token)
        → IsPart j c front → joins j token ≡ true → AreParts j cs back → AreParts j (c ∷ cs) (front ++ (token ∷ back))

  pub data IsPart : Join → Clause → List Token → Type 0 where
    xors : (c : Clause) (tokens : List Token) → IsJoined join.Xor c tokens → IsPart join.Or c tokens
    ands : (c : Clause) (tokens : List Token) → IsJoined join.And c tokens → IsPart join.Xor c tokens
    nots : (c : Clause) (tokens : List Token) → IsNots c tokens → IsPart join.And c tokens

  pub data IsNots : Clause → List Token → Type 0 where
    negated : (c : Clause) (token : Token) (tokens : List Token) → is_not token ≡ true → IsNots c tokens → IsNots (clause.Not c) (token ∷ tokens)
    enclosed : (c : Clause) (tokens : List Token) → IsJoined join.Or c tokens → IsNots c (opening ∷ (tokens ++ closing ∷ []))
    condition : (a : Atom) (tokens : List Token) → IsAtom a tokens → IsNots (clause.One a) tokens

-- the tokens are a clause
abbrev pub IsClause : Clause → List Token → Type 0
IsClause c tokens = IsJoined join.Or c tokens
