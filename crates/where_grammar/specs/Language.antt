-- Which clause a text spells, and what is said of a text that spells none.
use Rattle.std.specs.Prelude.{◌≡◌, ◌≤◌, ◌<◌, ℕ, true, false, nat_lt, if◌then◌else◌, List, ◌++◌, length, drop, take, Option, Some, None, Result, Ok, Err, codes}
use Rattle.std.specs.List.{list_all, prefix_len}
use Rattle.std.specs.Str.{str_eq_ignore_ascii_case, str_to_ascii_lowercase}
use Rattle.lexing.specs.Blanks.{StopsAt, is_blank}
use Rattle.where_grammar.specs.declared.clause.Clause.{Clause}
use Rattle.where_grammar.specs.declared.clause.QueryKind.{QueryKind}
use Rattle.where_grammar.specs.declared.clause.QueryKind.TheVariants as kind
use Rattle.where_grammar.specs.declared.clause.ClauseFault.{ClauseFault}
use Rattle.where_grammar.specs.declared.clause.ClauseFault.TheVariants as fault
use Rattle.where_grammar.specs.declared.clause.ClauseRead.{ClauseRead}
use Rattle.where_grammar.specs.declared.token.Placed.{Placed}
use Rattle.where_grammar.specs.Tokens.{Spells, StopsWith, in_word, tokens_of}
use Rattle.where_grammar.specs.Limits.{most_bytes}
use Rattle.where_grammar.specs.Nesting.{is_deep}
use Rattle.where_grammar.specs.Grammar.{IsClause}
use Rattle.where_grammar.specs.Parsing.{bare, clause_of, long_of}

-- ---- what a text spells

-- The text has at most 1,048,576 bytes, spells these tokens, and they don't nest too deep.
pub record HasTokens (text : List ℕ) (tokens : List Placed) : Type 0 where
  pub fits : length text ≤ most_bytes
  pub spelled : Spells text tokens
  pub shallow : is_deep (bare tokens) ≡ false

-- The text has no tokens for this reason, the first one that holds.
pub data NoTokens (text : List ℕ) : QueryKind → Type 0 where
  too_long : most_bytes < length text → NoTokens text kind.Length
  stopped : (k : QueryKind) → length text ≤ most_bytes → StopsWith text k → NoTokens text k
  too_deep : (tokens : List Placed) → length text ≤ most_bytes → Spells text tokens → is_deep (bare tokens) ≡ true → NoTokens text kind.Depth

-- The text is this clause, whose lists have at most 4,096 items each.
pub record SpellsClause (c : Clause) (text : List ℕ) : Type 0 where
  pub tokens : List Placed
  pub has : HasTokens text tokens
  pub clause : IsClause c (bare tokens)
  pub short : long_of tokens ≡ None

-- The text is no such clause for this reason, the first one that holds.
pub data NoClause (text : List ℕ) : QueryKind → Type 0 where
  no_tokens : (k : QueryKind) → NoTokens text k → NoClause text k
  no_clause : (tokens : List Placed) → HasTokens text tokens → ((c : Clause) → IsClause c (bare tokens) → ⊥) → NoClause text kind.Syntax
  long_list : (tokens : List Placed) (c : Clause) (at : ℕ) → HasTokens text tokens → IsClause c (bare tokens) → long_of tokens ≡ Some at → NoClause text kind.ListLength

-- ---- the answer for a text, as a function

abbrev pub shallow_or_refused : Result (List Placed) QueryKind → Result (List Placed) QueryKind
shallow_or_refused (Ok tokens) = if is_deep (bare tokens) then Err kind.Depth else Ok tokens
shallow_or_refused (Err k) = Err k

-- the tokens of a text, or the first refusal
unfoldable pub read_tokens : List ℕ → Result (List Placed) QueryKind
read_tokens text = if nat_lt most_bytes (length text) then Err kind.Length else shallow_or_refused (tokens_of text)

abbrev pub listed : Option ℕ → Clause → Result Clause QueryKind
listed None c = Ok c
listed (Some at) c = Err kind.ListLength

abbrev pub spelled_by : List Placed → Option Clause → Result Clause QueryKind
spelled_by tokens None = Err kind.Syntax
spelled_by tokens (Some c) = listed (long_of tokens) c

abbrev pub read_by : Result (List Placed) QueryKind → Result Clause QueryKind
read_by (Ok tokens) = spelled_by tokens (clause_of (bare tokens))
read_by (Err k) = Err k

-- the clause that a text spells, or the first refusal
unfoldable pub read_where : List ℕ → Result Clause QueryKind
read_where text = read_by (read_tokens text)

-- ---- answers of calls

-- the refusal that a fault tells of a text; want of memory tells none
abbrev pub refusal : ClauseFault → Option QueryKind
refusal (fault.Bad k) = Some k
refusal fault.OutOfMemory = None

-- the clause of tokens, with the place of its first long list
abbrev pub clause_read : List Placed → Option Clause → Result ClauseRead QueryKind
clause_read tokens None = Err kind.Syntax
clause_read tokens (Some c) = Ok (record { clause = c; long = long_of tokens })

-- what is told of tokens that are no clause
abbrev pub IsNoClause : List Placed → QueryKind → Type 0
IsNoClause tokens kind.Syntax = (c : Clause) → IsClause c (bare tokens) → ⊥
IsNoClause tokens k = ⊥

-- ---- the text of a query

-- blanks, the word `where` in either case, and the rest, which begins with no letter, digit or `_`
pub record FollowsWhere (text rest : List ℕ) : Type 0 where
  pub blanks : List ℕ
  pub word : List ℕ
  pub cut : text ≡ blanks ++ (word ++ rest)
  pub all_blank : list_all is_blank blanks ≡ true
  pub is_where : str_to_ascii_lowercase word ≡ codes "where"
  pub ends : StopsAt in_word rest

-- the same, as a function

-- what follows the word that is at the front, where that word is `where`
abbrev pub behind_where : List ℕ → Option (List ℕ)
behind_where text =
    let n = prefix_len in_word text in
    if str_eq_ignore_ascii_case (take n text) (codes "where") then Some (drop n text) else None

-- what follows the word `where`, in either case, with which a text begins behind blanks
unfoldable pub after_where : List ℕ → Option (List ℕ)
after_where text = behind_where (drop (prefix_len is_blank text) text)
