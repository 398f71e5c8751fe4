-- The query of a text, or the first refusal.
use Rattle.std.proofs.Common.{◌≡◌, ℕ, Bool, true, false, List, refl, sym, ap, subst, ◌∙◌, inl, inr, ℤ, pos}
use Rattle.std.specs.Prelude.{Option, Some, None, Result, Ok, Err, IfOk, IfErr, nat_le, option_map, negsuc}
use Rattle.lexing.proofs.Cases.{chosen}
use Rattle.answers.specs.Answers.{Answers, Tells}
use Rattle.where_grammar.specs.declared.clause.QueryKind.{QueryKind}
use Rattle.where_grammar.specs.declared.clause.QueryKind.TheVariants as kind
use Rattle.where_grammar.specs.declared.clause.ClauseFault.{ClauseFault}
use Rattle.where_grammar.specs.declared.clause.ClauseFault.TheVariants as fault
use Rattle.where_grammar.specs.declared.token.Placed.{Placed}
use Rattle.where_grammar.specs.Language.{HasTokens, read_tokens, refusal}
use Rattle.where_grammar.specs.Parsing.{bare}
use Rattle.where_grammar.proofs.ClauseLaws.{shallow_tokens}
use Rattle.where_grammar.proofs.TextLaws.{has_tokens, read_found}
use Rattle.where_grammar.proofs.TextLaws as laws
use Rattle.query_grammar.specs.declared.query.Asked.{Asked}
use Rattle.query_grammar.specs.declared.query.Query.{Query}
use Rattle.query_grammar.specs.Limits.{most_rows}
use Rattle.query_grammar.specs.Grammar.{IsQuery}
use Rattle.query_grammar.specs.Language.{NoQuery, SpellsQuery, as_asked, asked_or_refused, has_long_list, is_limit_or_none, kept, kept_if_read, limited, long_list, no_limit, no_query, no_tokens, read_by, read_query, with_limit}
use Rattle.query_grammar.specs.Reading.{query_of}
use Rattle.query_grammar.proofs.Told.{query_told}
use Rattle.query_grammar.proofs.QueryLaws.{is_none, none_is, query_again}

-- ---- what is read

record Keeps (asked : Asked) (l : Option ℤ) (q : Query) : Type 0 where
  same : record { select = asked.select; clause = asked.clause; order = asked.order; limit = l } ≡ as_asked q
  good : is_limit_or_none l ≡ true

limited_found : (asked : Asked) (l : Option ℤ) (q : Query) → limited asked l ≡ Ok q → Keeps asked l q
limited_found asked None q e = let same : with_limit asked None ≡ q = cc in subst (Keeps asked None) same (record { same = refl; good = refl })
limited_found asked (Some (pos n)) q e =
    elim (chosen (nat_le n most_rows) (Ok (with_limit asked (Some n))) (Err kind.Literal) (Ok q) e) [
      | inl h ↦ (let same : with_limit asked (Some n) ≡ q = cc in subst (Keeps asked (Some (pos n))) same (record { same = refl; good = h.0 }))
      | inr h ↦ absurd cc
    ]
limited_found asked (Some (negsuc n)) q e = absurd cc

kept_found : (text : List ℕ) (tokens : List Placed) (asked : Asked) (q : Query) → HasTokens text tokens → IsQuery asked (bare tokens) → kept asked tokens ≡ Ok q → SpellsQuery q text
kept_found text tokens asked q has is e =
    elim (chosen (has_long_list asked tokens) (Err kind.ListLength) (limited asked asked.limit) (Ok q) e) [
      | inl h ↦ absurd cc
      | inr h ↦ (
          let told = limited_found asked asked.limit q h.1 in
          record {
            tokens = tokens;
            has = has;
            query = subst (λ a. IsQuery a (bare tokens)) told.same is;
            short = subst (λ a. has_long_list a tokens ≡ false) told.same h.0;
            limit = subst (λ (a : Asked). is_limit_or_none a.limit ≡ true) told.same told.good;
          })
    ]

kept_if_found : (text : List ℕ) (tokens : List Placed) (o : Option Asked) (q : Query) → HasTokens text tokens → query_of (bare tokens) ≡ o → kept_if_read tokens o ≡ Ok q → SpellsQuery q text
kept_if_found text tokens None q has is e = absurd cc
kept_if_found text tokens (Some asked) q has is e = kept_found text tokens asked q has (query_told (bare tokens) asked is) e

read_spelled : (text : List ℕ) (r : Result (List Placed) QueryKind) (q : Query) → read_tokens text ≡ r → read_by r ≡ Ok q → SpellsQuery q text
read_spelled text (Ok tokens) q is e = kept_if_found text tokens (query_of (bare tokens)) q (read_found text tokens is) refl e
read_spelled text (Err k) q is e = absurd cc

pub gives_query : (text : List ℕ) (r : Result Query ClauseFault) → Answers refusal r (read_query text) → IfOk r (λ q. SpellsQuery q text)
unfolding read_query
gives_query text (Ok q) gives = read_spelled text (read_tokens text) q refl gives
gives_query text (Err e) gives = tt

-- ---- what is spelled

limited_again : (asked : Asked) (n : Option ℕ) → is_limit_or_none (option_map pos n) ≡ true → limited asked (option_map pos n) ≡ Ok (with_limit asked n)
limited_again asked None good = refl
limited_again asked (Some n) good = let few : nat_le n most_rows ≡ true = good in rw few refl

kept_again : (q : Query) (tokens : List Placed) → has_long_list (as_asked q) tokens ≡ false → is_limit_or_none (option_map pos q.limit) ≡ true → kept (as_asked q) tokens ≡ Ok q
kept_again q tokens short good = let s : has_long_list (as_asked q) tokens ≡ false = short in rw s (limited_again (as_asked q) q.limit good)

pub spelled_read : (text : List ℕ) (q : Query) → SpellsQuery q text → read_query text ≡ Ok q
unfolding read_query
spelled_read text q is =
    let found = query_again (bare is.tokens) (as_asked q) is.query (shallow_tokens (bare is.tokens) is.has.shallow) in
    ap read_by (has_tokens text is.tokens is.has) ∙ (ap (kept_if_read is.tokens) found ∙ kept_again q is.tokens is.short is.limit)

-- ---- refusals

limited_refused : (asked : Asked) (l : Option ℤ) (k : QueryKind) → limited asked l ≡ Err k → (kind.Literal ≡ k) × (is_limit_or_none l ≡ false)
limited_refused asked None k e = absurd cc
limited_refused asked (Some (pos n)) k e =
    elim (chosen (nat_le n most_rows) (Ok (with_limit asked (Some n))) (Err kind.Literal) (Err k) e) [
      | inl h ↦ absurd cc
      | inr h ↦ (cc, h.0)
    ]
limited_refused asked (Some (negsuc n)) k e = (cc, refl)

kept_refused : (text : List ℕ) (tokens : List Placed) (asked : Asked) (k : QueryKind) → HasTokens text tokens → IsQuery asked (bare tokens) → kept asked tokens ≡ Err k → NoQuery text k
kept_refused text tokens asked k has is e =
    elim (chosen (has_long_list asked tokens) (Err kind.ListLength) (limited asked asked.limit) (Err k) e) [
      | inl h ↦ (let same : kind.ListLength ≡ k = cc in subst (NoQuery text) same (long_list tokens asked has is h.0))
      | inr h ↦ (let told = limited_refused asked asked.limit k h.1 in subst (NoQuery text) told.0 (no_limit tokens asked has is h.0 told.1))
    ]

kept_if_refused : (text : List ℕ) (tokens : List Placed) (o : Option Asked) (k : QueryKind) → HasTokens text tokens → query_of (bare tokens) ≡ o → kept_if_read tokens o ≡ Err k → NoQuery text k
kept_if_refused text tokens None k has is e =
    let same : kind.Syntax ≡ k = cc in
    subst (NoQuery text) same (no_query tokens has (none_is (bare tokens) (shallow_tokens (bare tokens) has.shallow) is))
kept_if_refused text tokens (Some asked) k has is e = kept_refused text tokens asked k has (query_told (bare tokens) asked is) e

read_no_query : (text : List ℕ) (r : Result (List Placed) QueryKind) (k : QueryKind) → read_tokens text ≡ r → read_by r ≡ Err k → NoQuery text k
read_no_query text (Ok tokens) k is e = kept_if_refused text tokens (query_of (bare tokens)) k (read_found text tokens is) refl e
read_no_query text (Err other) k is e =
    let same : other ≡ k = cc in
    subst (NoQuery text) same (no_tokens other (laws.read_refused text other is))

pub gives_no_query : (text : List ℕ) (r : Result Query ClauseFault) → Answers refusal r (read_query text) → IfErr r (Tells refusal (NoQuery text))
unfolding read_query
gives_no_query text (Ok q) gives = tt
gives_no_query text (Err fault.OutOfMemory) gives = tt
gives_no_query text (Err (fault.Bad k)) gives = read_no_query text (read_tokens text) k refl gives

limited_no : (asked : Asked) (l : Option ℤ) → is_limit_or_none l ≡ false → limited asked l ≡ Err kind.Literal
limited_no asked None e = absurd cc
limited_no asked (Some (pos n)) e = let many : nat_le n most_rows ≡ false = e in rw many refl
limited_no asked (Some (negsuc n)) e = refl

read_again : (text : List ℕ) (tokens : List Placed) (asked : Asked) → HasTokens text tokens → IsQuery asked (bare tokens) → read_query text ≡ kept asked tokens
unfolding read_query
read_again text tokens asked has is =
    let found = query_again (bare tokens) asked is (shallow_tokens (bare tokens) has.shallow) in
    ap read_by (has_tokens text tokens has) ∙ ap (kept_if_read tokens) found

kept_long : (asked : Asked) (tokens : List Placed) → has_long_list asked tokens ≡ true → kept asked tokens ≡ Err kind.ListLength
kept_long asked tokens long = let l : has_long_list asked tokens ≡ true = long in rw l refl

kept_no : (asked : Asked) (tokens : List Placed) → has_long_list asked tokens ≡ false → is_limit_or_none asked.limit ≡ false → kept asked tokens ≡ Err kind.Literal
kept_no asked tokens short is_no = let s : has_long_list asked tokens ≡ false = short in rw s (limited_no asked asked.limit is_no)

pub no_query_read : (text : List ℕ) (k : QueryKind) → NoQuery text k → read_query text ≡ Err k
unfolding read_query
no_query_read text _ (no_tokens k none) = ap read_by (laws.no_tokens text k none)
no_query_read text _ (no_query tokens has none) = ap read_by (has_tokens text tokens has) ∙ ap (kept_if_read tokens) (is_none (bare tokens) (query_of (bare tokens)) refl none)
no_query_read text _ (long_list tokens asked has is long) = read_again text tokens asked has is ∙ kept_long asked tokens long
no_query_read text _ (no_limit tokens asked has is short is_no) = read_again text tokens asked has is ∙ kept_no asked tokens short is_no

-- ---- steps of the code

read_on_by : (o : Option Asked) (asked : Asked) (tokens : List Placed) → asked_or_refused o ≡ Ok asked → kept_if_read tokens o ≡ kept asked tokens
read_on_by None asked tokens e = absurd cc
read_on_by (Some a) asked tokens e = let same : a ≡ asked = cc in ap (λ x. kept x tokens) same

pub read_on : (tokens : List Placed) (asked : Asked) (r : Result Query ClauseFault) → asked_or_refused (query_of (bare tokens)) ≡ Ok asked → Answers refusal r (kept asked tokens) → Answers refusal r (kept_if_read tokens (query_of (bare tokens)))
read_on tokens asked r e gives = laws.along r (kept asked tokens) (kept_if_read tokens (query_of (bare tokens))) gives (sym (read_on_by (query_of (bare tokens)) asked tokens e))

read_off_by : (o : Option Asked) (k : QueryKind) (tokens : List Placed) → asked_or_refused o ≡ Err k → kept_if_read tokens o ≡ Err k
read_off_by None k tokens e = let same : kind.Syntax ≡ k = cc in ap Err same
read_off_by (Some a) k tokens e = absurd cc

pub read_off : (tokens : List Placed) (k : QueryKind) → asked_or_refused (query_of (bare tokens)) ≡ Err k → kept_if_read tokens (query_of (bare tokens)) ≡ Err k
read_off tokens k e = read_off_by (query_of (bare tokens)) k tokens e
