-- The query that tokens spell, as a function.
use Rattle.std.specs.Prelude.{ℕ, zero, suc, Bool, true, false, not, ◌||◌, is_none, if◌then◌else◌, List, [], ◌∷◌, length, take, drop, Option, Some, None, ℤ, codes}
use Rattle.std.proofs.Common.{Bor}
use Rattle.std.specs.List.{prefix_len}
use Rattle.std.specs.Option.{option_map, option_and_then}
use Rattle.where_grammar.specs.declared.clause.Clause.{Clause}
use Rattle.where_grammar.specs.declared.token.Sign.TheVariants as sign
use Rattle.where_grammar.specs.declared.token.Placed.{Placed}
use Rattle.where_grammar.specs.declared.token.Token.{Token}
use Rattle.where_grammar.specs.Nesting.{is_close, is_open, is_sign, is_word}
use Rattle.where_grammar.specs.Parsing.{At, after, bare, clause_of, name_in, number_in, taken}
use Rattle.query_grammar.specs.declared.query.Item.{Item}
use Rattle.query_grammar.specs.declared.query.Item.TheVariants as item
use Rattle.query_grammar.specs.declared.query.OrderItem.{OrderItem}
use Rattle.query_grammar.specs.declared.query.Asked.{Asked}
use Rattle.query_grammar.specs.declared.parsing.PartsRead.{PartsRead}
use Rattle.query_grammar.specs.Grammar.{ordered_by}

-- ---- items

-- behind the word of an aggregate: a name in parentheses
unfoldable pub name_called : At (List ℕ)
name_called tokens =
    option_and_then (λ rest. option_and_then (λ name. option_map (λ end. (name.0, end)) (after is_close name.1)) (taken name_in rest)) (after is_open tokens)

abbrev pub called_at : (List ℕ → Item) → At Item
called_at make tokens = option_map (λ found. (make found.0, found.1)) (name_called tokens)

-- behind `count`
unfoldable pub counted_at : At Item
counted_at tokens =
    option_and_then (λ rest. option_and_then (λ behind. option_map (λ end. (item.CountAll, end)) (after is_close behind)) (after (is_sign sign.Star) rest)) (after is_open tokens)

abbrev pub plain_item : Token → At Item
plain_item token tokens = option_map (λ name. (item.Plain name, tokens)) (name_in token)

abbrev pub item_from : Token → At Item
item_from token tokens =
    if is_word (codes "count") token then counted_at tokens
    else (if is_word (codes "min") token then called_at item.Least tokens
    else (if is_word (codes "max") token then called_at item.Greatest tokens
    else (if is_word (codes "sum") token then called_at item.Sum tokens
    else plain_item token tokens)))

-- the item at the front
abbrev pub item_at : At Item
item_at [] = None
item_at (token ∷ tokens) = item_from token tokens

-- the direction behind an item
abbrev pub directed : Item → List Token → OrderItem × List Token
directed i [] = (ordered_by i false, [])
directed i (token ∷ tokens) =
    if is_word (codes "asc") token then (ordered_by i false, tokens)
    else (if is_word (codes "desc") token then (ordered_by i true, tokens) else (ordered_by i false, token ∷ tokens))

abbrev pub order_item_at : At OrderItem
order_item_at tokens = option_map (λ found. directed found.0 found.1) (item_at tokens)

-- ---- lists

abbrev pub is_comma : Token → Bool
is_comma = is_sign sign.Comma

-- the items behind commas, at most n
abbrev pub more_within : {A : Type 0} → At A → ℕ → At (List A)
more_within part n [] = Some ([], [])
more_within part zero (token ∷ tokens) = Some ([], token ∷ tokens)
more_within part (suc n) (token ∷ tokens) =
    if is_comma token then option_and_then (λ found. option_map (λ more. (found.0 ∷ more.0, more.1)) (more_within part n found.1)) (part tokens)
    else Some ([], token ∷ tokens)

-- behind the first item
abbrev pub more_behind : {A : Type 0} → At A → A → At (List A)
more_behind part first tokens = option_map (λ more. (first ∷ more.0, more.1)) (more_within part (length tokens) tokens)

-- the items with commas between
abbrev pub listed_at : {A : Type 0} → At A → At (List A)
listed_at part tokens = option_and_then (λ first. more_behind part first.0 first.1) (part tokens)

-- ---- the parts of a query

abbrev pub select_by : Option (List Token) → At (Option (List Item))
select_by None tokens = Some (None, tokens)
select_by (Some behind) tokens = option_map (λ found. (Some found.0, found.1)) (listed_at item_at behind)

abbrev pub select_at : At (Option (List Item))
select_at tokens = select_by (after (is_word (codes "select")) tokens) tokens

-- a clause goes on up to one of these words, which name no column
abbrev pub ends_clause : Token → Bool
ends_clause token = is_word (codes "order") token || is_word (codes "limit") token

abbrev pub clause_len : List Token → ℕ
clause_len tokens = prefix_len (λ token. not (ends_clause token)) tokens

abbrev pub where_by : Option (List Token) → List Token → Option (List Token) × List Token
where_by None tokens = (None, tokens)
where_by (Some behind) tokens = (Some (take (clause_len behind) behind), drop (clause_len behind) behind)

-- the tokens of a clause, as contracts see them
abbrev pub seen_where : Option (Bor (List Placed)) → Option (List Token)
seen_where None = None
seen_where (Some tokens) = Some (bare tokens.now)

-- the tokens of the clause, and what follows them
abbrev pub where_at : List Token → Option (List Token) × List Token
where_at tokens = where_by (after (is_word (codes "where")) tokens) tokens

abbrev pub order_by : Option (List Token) → At (List OrderItem)
order_by None tokens = Some ([], tokens)
order_by (Some behind) tokens = option_and_then (listed_at order_item_at) (after (is_word (codes "by")) behind)

abbrev pub order_at : At (List OrderItem)
order_at tokens = order_by (after (is_word (codes "order")) tokens) tokens

abbrev pub limit_by : Option (List Token) → At (Option ℤ)
limit_by None tokens = Some (None, tokens)
limit_by (Some behind) tokens = option_map (λ found. (Some found.0, found.1)) (taken number_in behind)

abbrev pub limit_at : At (Option ℤ)
limit_at tokens = limit_by (after (is_word (codes "limit")) tokens) tokens

-- ---- the whole

-- a query whose clause is still tokens
pub record Parts : Type 0 where
  pub select : Option (List Item)
  pub clause : Option (List Token)
  pub order : List OrderItem
  pub limit : Option ℤ

abbrev pub parts : Option (List Item) → Option (List Token) → List OrderItem → Option ℤ → Parts
parts select clause order limit = record { select = select; clause = clause; order = order; limit = limit }

-- what a call finds, as contracts see it
abbrev pub seen_parts : PartsRead → Parts
seen_parts f = parts f.select (seen_where f.clause) f.order f.limit

-- only rows that are shown are ordered or limited
abbrev pub only_rows : Option (List Item) → List OrderItem → Option ℤ → Bool
only_rows (Some items) order limit = true
only_rows None [] limit = is_none limit
only_rows None (o ∷ order) limit = false

abbrev pub at_end : List Token → Bool
at_end [] = true
at_end (token ∷ tokens) = false

abbrev pub ended : Parts → List Token → Option Parts
ended f rest = if at_end rest then (if only_rows f.select f.order f.limit then Some f else None) else None

-- behind the select list and the clause
unfoldable pub ordered_parts : Option (List Item) → Option (List Token) → List Token → Option Parts
ordered_parts select clause tokens =
    option_and_then (λ order. option_and_then (λ limit. ended (parts select clause order.0 limit.0) limit.1) (limit_at order.1)) (order_at tokens)

unfoldable pub parts_of : List Token → Option Parts
parts_of tokens = option_and_then (λ select. let found = where_at select.1 in ordered_parts select.0 found.0 found.1) (select_at tokens)

abbrev pub with_clause : Parts → Option Clause → Asked
with_clause f clause = record { select = f.select; clause = clause; order = f.order; limit = f.limit }

-- the parts with the clause read
abbrev pub filled : Parts → Option (List Token) → Option Asked
filled f None = Some (with_clause f None)
filled f (Some tokens) = option_map (λ c. with_clause f (Some c)) (clause_of tokens)

abbrev pub filled_if_read : Option Parts → Option Asked
filled_if_read None = None
filled_if_read (Some f) = filled f f.clause

-- the query that the tokens spell
unfoldable pub query_of : List Token → Option Asked
query_of tokens = filled_if_read (parts_of tokens)
