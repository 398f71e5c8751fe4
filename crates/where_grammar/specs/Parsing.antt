-- The clause that tokens spell, as a function.
use Rattle.std.specs.Prelude.{ℕ, zero, suc, ◌+◌, nat_le, Bool, false, ◌&&◌, ◌||◌, if◌then◌else◌, List, [], ◌∷◌, length, drop, map, Option, Some, None, ℤ, codes}
use Rattle.std.proofs.Common.{Bor}
use Rattle.std.specs.List.{prefix_len}
use Rattle.std.specs.Option.{option_map, option_and_then}
use Rattle.fb_types.specs.Names.{column_name}
use Rattle.where_grammar.specs.declared.clause.Op.{Op}
use Rattle.where_grammar.specs.declared.clause.Op.TheVariants as op
use Rattle.where_grammar.specs.declared.clause.Atom.{Atom}
use Rattle.where_grammar.specs.declared.clause.Atom.TheVariants as atom
use Rattle.where_grammar.specs.declared.clause.Clause.{Clause}
use Rattle.where_grammar.specs.declared.clause.Clause.TheVariants as clause
use Rattle.where_grammar.specs.declared.clause.Join.{Join}
use Rattle.where_grammar.specs.declared.clause.Join.TheVariants as join
use Rattle.where_grammar.specs.declared.token.Sign.{Sign}
use Rattle.where_grammar.specs.declared.token.Sign.TheVariants as sign
use Rattle.where_grammar.specs.declared.token.Token.{Token}
use Rattle.where_grammar.specs.declared.token.Token.TheVariants as t
use Rattle.where_grammar.specs.declared.token.Placed.{Placed}
use Rattle.where_grammar.specs.Limits.{most_items, most_open}
use Rattle.where_grammar.specs.Nesting.{is_word, is_sign, is_open, is_close, is_not}
use Rattle.where_grammar.specs.Grammar.{group, joins, turned}

-- what stands at the front, and what follows it
abbrev pub At : Type 0 → Type 0
At A = List Token → Option (A × List Token)

abbrev pub bare : List Placed → List Token
bare placed = map (λ p. p.token) placed

-- what a call finds, as contracts see it
abbrev pub seen_at : {A : Type 0} → Option (A × Bor (List Placed)) → Option (A × List Token)
seen_at None = None
seen_at (Some found) = Some (found.0, bare found.1.now)

-- ---- one token

abbrev pub name_in : Token → Option (List ℕ)
name_in (t.Word word) = column_name word
name_in (t.Number z) = None
name_in (t.Text text) = None
name_in (t.Sign s) = None

abbrev pub number_in : Token → Option ℤ
number_in (t.Word word) = None
number_in (t.Number z) = Some z
number_in (t.Text text) = None
number_in (t.Sign s) = None

abbrev pub text_in : Token → Option (List ℕ)
text_in (t.Word word) = None
text_in (t.Number z) = None
text_in (t.Text text) = Some text
text_in (t.Sign s) = None

abbrev pub op_of : Sign → Option Op
op_of (sign.Op by) = Some by
op_of _ = None

abbrev pub op_in : Token → Option Op
op_in (t.Word word) = None
op_in (t.Number z) = None
op_in (t.Text text) = None
op_in (t.Sign s) = op_of s

abbrev pub taken : {A : Type 0} → (Token → Option A) → At A
taken part [] = None
taken part (token ∷ tokens) = option_map (λ x. (x, tokens)) (part token)

-- what follows a token that passes the test
abbrev pub after : (Token → Bool) → List Token → Option (List Token)
after test [] = None
after test (token ∷ tokens) = if test token then Some tokens else None

-- ---- conditions

-- behind `name op`
abbrev pub text_compared : List ℕ → Op → List ℕ → Option Atom
text_compared name op.Equal text = Some (atom.Same name text)
text_compared name op.Differs text = Some (atom.Other name text)
text_compared name _ text = None

abbrev pub compared_token : List ℕ → Op → Token → Option Atom
compared_token name by (t.Word word) = None
compared_token name by (t.Number value) = Some (atom.Compare name by value)
compared_token name by (t.Text text) = text_compared name by text
compared_token name by (t.Sign s) = None

abbrev pub compared_at : List ℕ → Op → At Atom
compared_at name by = taken (compared_token name by)

-- behind `name between`
unfoldable pub between_at : List ℕ → At Atom
between_at name tokens =
    option_and_then (λ low. option_and_then (λ rest. option_map (λ high. (atom.Between name low.0 high.0, high.1))
    (taken number_in rest)) (after (is_word (codes "and")) low.1)) (taken number_in tokens)

-- the items behind commas, at most n, each read so, and what follows the `)` behind them
abbrev pub items_within : {A : Type 0} → (Token → Option A) → ℕ → At (List A)
items_within part n [] = None
items_within part zero (token ∷ tokens) = None
items_within part (suc n) (token ∷ tokens) =
    if is_close token then Some ([], tokens)
    else (if is_sign sign.Comma token then option_and_then (λ item. option_map (λ more. (item.0 ∷ more.0, more.1)) (items_within part n item.1)) (taken part tokens)
    else None)

abbrev pub items_at : {A : Type 0} → (Token → Option A) → At (List A)
items_at part tokens = items_within part (length tokens) tokens

-- the items from the first one on
abbrev pub items_from : {A : Type 0} → (Token → Option A) → At (List A)
items_from part tokens = option_and_then (λ item. option_map (λ more. (item.0 ∷ more.0, more.1)) (items_at part item.1)) (taken part tokens)

abbrev pub numbers_at : List ℕ → At Atom
numbers_at name tokens = option_map (λ list. (atom.Numbers name list.0, list.1)) (items_from number_in tokens)

abbrev pub texts_at : List ℕ → At Atom
texts_at name tokens = option_map (λ list. (atom.Texts name list.0, list.1)) (items_from text_in tokens)

-- behind `name in (`, by the first item
abbrev pub list_from : List ℕ → Token → At Atom
list_from name (t.Word word) tokens = None
list_from name (t.Number first) tokens = numbers_at name (t.Number first ∷ tokens)
list_from name (t.Text first) tokens = texts_at name (t.Text first ∷ tokens)
list_from name (t.Sign s) tokens = None

abbrev pub list_begun : List ℕ → At Atom
list_begun name [] = None
list_begun name (token ∷ tokens) = list_from name token tokens

-- behind `name in`
abbrev pub list_at : List ℕ → At Atom
list_at name tokens = option_and_then (list_begun name) (after is_open tokens)

-- behind `name like`
abbrev pub like_at : List ℕ → At Atom
like_at name tokens = option_map (λ text. (atom.Like name text.0, text.1)) (taken text_in tokens)

abbrev pub worded : List ℕ → Token → At Atom
worded name token tokens =
    if is_word (codes "between") token then between_at name tokens
    else (if is_word (codes "in") token then list_at name tokens
    else (if is_word (codes "like") token then like_at name tokens else None))

-- behind a name, by the next token
abbrev pub named_by : List ℕ → Option Op → Token → At Atom
named_by name (Some by) token tokens = compared_at name by tokens
named_by name None token tokens = worded name token tokens

abbrev pub named_at : List ℕ → At Atom
named_at name [] = None
named_at name (token ∷ tokens) = named_by name (op_in token) token tokens

-- behind `number op name`: an operator there goes on with the condition
abbrev pub doubled_by : ℤ → Op → List ℕ → Option (Op × List Token) → List Token → Option (Atom × List Token)
doubled_by low left name None tokens = Some (atom.Compare name (turned left) low, tokens)
doubled_by low left name (Some right) tokens = option_map (λ high. (atom.Double name (turned left) low right.0 high.0, high.1)) (taken number_in right.1)

-- behind `number op`
abbrev pub turned_at : ℤ → Op → At Atom
turned_at low left tokens = option_and_then (λ name. doubled_by low left name.0 (taken op_in name.1) name.1) (taken name_in tokens)

-- behind a number
abbrev pub numbered_at : ℤ → At Atom
numbered_at low tokens = option_and_then (λ left. turned_at low left.0 left.1) (taken op_in tokens)

-- behind `exists`
unfoldable pub exists_at : At Atom
exists_at tokens =
    option_and_then (λ rest. option_and_then (λ name. option_map (λ end. (atom.Exists name.0, end)) (after is_close name.1)) (taken name_in rest)) (after is_open tokens)

abbrev pub name_begun : Option (List ℕ) → At Atom
name_begun None tokens = None
name_begun (Some name) tokens = named_at name tokens

abbrev pub atom_from : Token → At Atom
atom_from (t.Word word) tokens = if is_word (codes "exists") (t.Word word) then exists_at tokens else name_begun (column_name word) tokens
atom_from (t.Number low) tokens = numbered_at low tokens
atom_from (t.Text text) tokens = None
atom_from (t.Sign s) tokens = None

-- the condition at the front
abbrev pub atom_at : At Atom
atom_at [] = None
atom_at (token ∷ tokens) = atom_from token tokens

-- ---- clauses, over a reader of what stands in parentheses

abbrev pub enclosed_at : At Clause → At Clause
enclosed_at inner tokens = option_and_then (λ found. option_map (λ rest. (found.0, rest)) (after is_close found.1)) (inner tokens)

abbrev pub unit_at : At Clause → At Clause
unit_at inner [] = None
unit_at inner (token ∷ tokens) =
    if is_open token then enclosed_at inner tokens else option_map (λ found. (clause.One found.0, found.1)) (atom_from token tokens)

abbrev pub not_times : ℕ → Clause → Clause
not_times zero c = c
not_times (suc n) c = clause.Not (not_times n c)

abbrev pub nots_at : At Clause → At Clause
nots_at inner tokens =
    let n = prefix_len is_not tokens in option_map (λ found. (not_times n found.0, found.1)) (unit_at inner (drop n tokens))

-- the parts behind joints, at most n
abbrev pub parts_within : Join → At Clause → ℕ → At (List Clause)
parts_within j part n [] = Some ([], [])
parts_within j part zero (token ∷ tokens) = Some ([], token ∷ tokens)
parts_within j part (suc n) (token ∷ tokens) =
    if joins j token then option_and_then (λ found. option_map (λ more. (found.0 ∷ more.0, more.1)) (parts_within j part n found.1)) (part tokens)
    else Some ([], token ∷ tokens)

abbrev pub grouped : Join → Clause → List Clause → Clause
grouped j first [] = first
grouped j first (second ∷ more) = group j (first ∷ second ∷ more)

abbrev pub parts_behind : Join → At Clause → Clause → At Clause
parts_behind j part first tokens = option_map (λ more. (grouped j first more.0, more.1)) (parts_within j part (length tokens) tokens)

abbrev pub joined_at : Join → At Clause → At Clause
joined_at j part tokens = option_and_then (λ first. parts_behind j part first.0 first.1) (part tokens)

abbrev pub part_at : Join → At Clause → At Clause
part_at join.And inner = nots_at inner
part_at join.Xor inner = joined_at join.And (nots_at inner)
part_at join.Or inner = joined_at join.Xor (joined_at join.And (nots_at inner))

-- a joint that is tighter than those of this level
abbrev pub is_tighter : Join → Token → Bool
is_tighter join.Or token = joins join.Xor token || joins join.And token
is_tighter join.Xor token = joins join.And token
is_tighter join.And token = false

-- behind its first unit a part of this level goes on
abbrev pub part_goes_on : Join → List Token → Bool
part_goes_on j [] = false
part_goes_on j (token ∷ tokens) = is_tighter j token

-- a part of this level from its first unit on
abbrev pub part_from : Join → At Clause → Clause → At Clause
part_from join.And inner first tokens = Some (first, tokens)
part_from join.Xor inner first tokens = parts_behind join.And (part_at join.And inner) first tokens
part_from join.Or inner first tokens =
    option_and_then (λ found. parts_behind join.Xor (part_at join.Xor inner) found.0 found.1) (parts_behind join.And (part_at join.And inner) first tokens)

-- a clause with less than n parentheses one in the other
abbrev pub clause_within : ℕ → At Clause
clause_within zero tokens = None
clause_within (suc n) tokens = joined_at join.Or (part_at join.Or (clause_within n)) tokens

abbrev pub whole : Option (Clause × List Token) → Option Clause
whole None = None
whole (Some found) = whole_by found.0 found.1
  where
    whole_by : Clause → List Token → Option Clause
    whole_by c [] = Some c
    whole_by c (token ∷ tokens) = None

-- the clause that the tokens spell, where at most 64 parentheses are open
unfoldable pub clause_of : List Token → Option Clause
clause_of tokens = whole (clause_within (most_open + 1) tokens)

-- ---- lists

-- how many commas stand before the first `)`
abbrev pub commas_before_close : List Token → ℕ
commas_before_close [] = 0
commas_before_close (token ∷ tokens) = if is_close token then 0 else (if is_sign sign.Comma token then suc (commas_before_close tokens) else commas_before_close tokens)

-- the list behind this `in` has more than 4,096 items
abbrev pub is_long : Token → List Token → Bool
is_long token tokens = is_word (codes "in") token && nat_le most_items (commas_before_close tokens)

-- the place of the name before the first such `in`
abbrev pub long_behind : Placed → List Placed → Option ℕ
long_behind name [] = None
long_behind name (p ∷ placed) = if is_long p.token (bare placed) then Some name.at else long_behind p placed

abbrev pub long_of : List Placed → Option ℕ
long_of [] = None
long_of (p ∷ placed) = long_behind p placed
