-- Which query a text spells, and what is said of a text that spells none.
use Rattle.std.specs.Prelude.{◌≡◌, ◌≤◌, ℕ, Bool, true, false, ◌||◌, nat_le, nat_lt, is_some, if◌then◌else◌, List, length, Option, Some, None, Result, Ok, Err, ℤ, pos, negsuc, option_map}
use Rattle.where_grammar.specs.declared.clause.Clause.{Clause}
use Rattle.where_grammar.specs.declared.clause.QueryKind.{QueryKind}
use Rattle.where_grammar.specs.declared.clause.QueryKind.TheVariants as kind
use Rattle.where_grammar.specs.declared.token.Placed.{Placed}
use Rattle.where_grammar.specs.declared.token.Token.{Token}
use Rattle.where_grammar.specs.Language.{HasTokens, NoTokens, read_tokens}
use Rattle.where_grammar.specs.Parsing.{bare, clause_of, long_of}
use Rattle.query_grammar.specs.declared.query.Item.{Item}
use Rattle.query_grammar.specs.declared.query.Query.{Query}
use Rattle.query_grammar.specs.declared.query.Asked.{Asked}
use Rattle.query_grammar.specs.Limits.{most_items, most_rows}
use Rattle.query_grammar.specs.Grammar.{IsQuery}
use Rattle.query_grammar.specs.Reading.{query_of}

-- ---- what a text spells

-- a query as the grammar has it
abbrev pub as_asked : Query → Asked
as_asked q = record { select = q.select; clause = q.clause; order = q.order; limit = option_map pos q.limit }

-- a list of more items than there may be
abbrev pub is_long : {A : Type 0} → List A → Bool
is_long items = nat_lt most_items (length items)

abbrev pub is_long_select : Option (List Item) → Bool
is_long_select None = false
is_long_select (Some items) = is_long items

-- a list behind `in` has more than 4,096 items, or the select list or the order more than 255
abbrev pub has_long_list : Asked → List Placed → Bool
has_long_list asked tokens = is_long_select asked.select || (is_some (long_of tokens) || is_long asked.order)

-- a limit is 0 to 999,999,999,999,999,999
abbrev pub is_limit : ℤ → Bool
is_limit (pos n) = nat_le n most_rows
is_limit (negsuc n) = false

abbrev pub is_limit_or_none : Option ℤ → Bool
is_limit_or_none None = true
is_limit_or_none (Some z) = is_limit z

-- The text is this query, whose lists and whose limit are within the limits.
pub record SpellsQuery (q : Query) (text : List ℕ) : Type 0 where
  pub tokens : List Placed
  pub has : HasTokens text tokens
  pub query : IsQuery (as_asked q) (bare tokens)
  pub short : has_long_list (as_asked q) tokens ≡ false
  pub limit : is_limit_or_none (option_map pos q.limit) ≡ true

-- The text is no such query for this reason, the first one that holds.
pub data NoQuery (text : List ℕ) : QueryKind → Type 0 where
  no_tokens : (k : QueryKind) → NoTokens text k → NoQuery text k
  no_query : (tokens : List Placed) → HasTokens text tokens → ((asked : Asked) → IsQuery asked (bare tokens) → ⊥) → NoQuery text kind.Syntax
  long_list : (tokens : List Placed) (asked : Asked) → HasTokens text tokens → IsQuery asked (bare tokens) → has_long_list asked tokens ≡ true → NoQuery text kind.ListLength
  no_limit : (tokens : List Placed) (asked : Asked) → HasTokens text tokens → IsQuery asked (bare tokens) → has_long_list asked tokens ≡ false → is_limit_or_none asked.limit ≡ false → NoQuery text kind.Literal

-- ---- the answer for a text, as a function

abbrev pub with_limit : Asked → Option ℕ → Query
with_limit asked limit = record { select = asked.select; clause = asked.clause; order = asked.order; limit = limit }

abbrev pub limited : Asked → Option ℤ → Result Query QueryKind
limited asked None = Ok (with_limit asked None)
limited asked (Some (pos n)) = if nat_le n most_rows then Ok (with_limit asked (Some n)) else Err kind.Literal
limited asked (Some (negsuc n)) = Err kind.Literal

abbrev pub kept : Asked → List Placed → Result Query QueryKind
kept asked tokens = if has_long_list asked tokens then Err kind.ListLength else limited asked asked.limit

abbrev pub kept_if_read : List Placed → Option Asked → Result Query QueryKind
kept_if_read tokens None = Err kind.Syntax
kept_if_read tokens (Some asked) = kept asked tokens

abbrev pub read_by : Result (List Placed) QueryKind → Result Query QueryKind
read_by (Ok tokens) = kept_if_read tokens (query_of (bare tokens))
read_by (Err k) = Err k

-- the query that a text spells, or the first refusal
unfoldable pub read_query : List ℕ → Result Query QueryKind
read_query text = read_by (read_tokens text)

-- what is asked by tokens, or the refusal
abbrev pub asked_or_refused : Option Asked → Result Asked QueryKind
asked_or_refused None = Err kind.Syntax
asked_or_refused (Some asked) = Ok asked

abbrev pub clause_or_syntax : Option Clause → Result (Option Clause) QueryKind
clause_or_syntax None = Err kind.Syntax
clause_or_syntax (Some c) = Ok (Some c)

-- the clause of tokens, where there are any, or the refusal
abbrev pub clause_or_refused : Option (List Token) → Result (Option Clause) QueryKind
clause_or_refused None = Ok None
clause_or_refused (Some tokens) = clause_or_syntax (clause_of tokens)
