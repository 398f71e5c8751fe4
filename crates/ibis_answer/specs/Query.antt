-- The clause of a query's text, the columns that it names, and whether they fit a schema.
use Rattle.std.specs.Prelude.{ℕ, Bool, false, not, List, Option, Some, None, Result, Ok, Err, is_some, if◌then◌else◌}
use Rattle.std.specs.List.{list_any}
use Rattle.std.specs.Str.{bytes_eq}
use Rattle.fb_types.specs.declared.schemas.Column.{Column}
use Rattle.where_grammar.specs.declared.clause.Clause.{Clause}
use Rattle.where_grammar.specs.declared.clause.Clause.TheOpen.{Clause-F}
use Rattle.where_grammar.specs.declared.clause.Clause.TheFolds.{fold-Clause}
use Rattle.where_grammar.specs.declared.clause.QueryKind.{QueryKind}
use Rattle.where_grammar.specs.declared.clause.QueryKind.TheVariants.{Length, Syntax}
use Rattle.where_grammar.specs.Holds.{column_of}
use Rattle.where_grammar.specs.Language.{after_where}
use Rattle.where_plan.specs.Refusals.{refusal_of}
use Rattle.query_grammar.specs.declared.query.Query.{Query}
use Rattle.query_grammar.specs.Language.{read_query}
use Rattle.statuses.specs.declared.Status.{Status}
use Rattle.statuses.specs.declared.Status.TheVariants.{BadQuery}

-- ---- the text

-- as yet a query has no select list
abbrev pub without_list : Query → Result (Option Clause) QueryKind
without_list q = if is_some q.select then Err Syntax else Ok q.clause

-- a text that begins with another word than `where` is Syntax as yet whatever else is wrong with it, but for its length
abbrev pub refused_as : List ℕ → QueryKind → QueryKind
refused_as text Length = Length
refused_as text kind = if is_some (after_where text) then kind else Syntax

abbrev pub clause_in : List ℕ → Result Query QueryKind → Result (Option Clause) QueryKind
clause_in text (Ok q) = without_list q
clause_in text (Err kind) = Err (refused_as text kind)

-- the clause that a query has, None where it asks for all records, or the first refusal of its text
abbrev pub read_clause : List ℕ → Result (Option Clause) QueryKind
read_clause text = clause_in text (read_query text)

abbrev pub clause_or_refusal : Result (Option Clause) QueryKind → Result (Option Clause) Status
clause_or_refusal (Ok clause) = Ok clause
clause_or_refusal (Err kind) = Err (BadQuery kind)

-- ---- the columns that it names

abbrev pub names_by_parts : List ℕ → Clause-F Bool → Bool
names_by_parts name (Clause-F.Or parts) = list_any (λ part. part) parts
names_by_parts name (Clause-F.Xor parts) = list_any (λ part. part) parts
names_by_parts name (Clause-F.And parts) = list_any (λ part. part) parts
names_by_parts name (Clause-F.Not part) = part
names_by_parts name (Clause-F.One condition) = bytes_eq name (column_of condition)

-- some condition of the clause is on a column of this name
abbrev pub names : Option Clause → List ℕ → Bool
names None name = false
names (Some clause) name = fold-Clause Bool (names_by_parts name) clause

-- ---- whether they fit

abbrev pub fits_or_refusal : Option Clause → Option QueryKind → Result (Option Clause) Status
fits_or_refusal clause None = Ok clause
fits_or_refusal clause (Some kind) = Err (BadQuery kind)

-- the clause under a schema, or the refusal of its first condition that doesn't fit
abbrev pub resolved : List Column → Option Clause → Result (Option Clause) Status
resolved schema clause = fits_or_refusal clause (refusal_of schema clause)
