-- The clause of tokens and of a text, or the first refusal.
use Rattle.std.proofs.Common.{◌≡◌, ℕ, Bool, true, false, ◌||◌, List, refl, sym, ap, subst, ◌∙◌}
use Rattle.std.specs.Prelude.{Option, Some, None, Result, Ok, Err, IfOk, IfErr}
use Rattle.where_grammar.specs.declared.clause.Clause.{Clause}
use Rattle.where_grammar.specs.declared.clause.ClauseRead.{ClauseRead}
use Rattle.where_grammar.specs.declared.clause.QueryKind.{QueryKind}
use Rattle.where_grammar.specs.declared.clause.QueryKind.TheVariants as kind
use Rattle.where_grammar.specs.declared.clause.ClauseFault.{ClauseFault}
use Rattle.where_grammar.specs.declared.clause.ClauseFault.TheVariants as fault
use Rattle.where_grammar.specs.declared.token.Placed.{Placed}
use Rattle.where_grammar.specs.declared.token.Token.{Token}
use Rattle.where_grammar.specs.Nesting.{is_crowded, is_deep, is_much_negated}
use Rattle.where_grammar.specs.Grammar.{IsClause}
use Rattle.where_grammar.specs.Parsing.{bare, clause_of, long_of}
use Rattle.answers.specs.Answers.{Answers, Tells}
use Rattle.where_grammar.specs.Language.{HasTokens, IsNoClause, NoClause, SpellsClause, clause_read, listed, long_list, no_clause, no_tokens, read_by, read_tokens, read_where, spelled_by, refusal}
use Rattle.where_grammar.proofs.TextLaws.{has_tokens, read_found}
use Rattle.where_grammar.proofs.TextLaws as laws
use Rattle.where_grammar.proofs.Clauses.{clause_of-told}
use Rattle.where_grammar.proofs.Readings.{clause_of-again}

not_crowded : (crowded negated : Bool) → (crowded || negated) ≡ false → crowded ≡ false
not_crowded true negated e = cc
not_crowded false negated e = refl

pub shallow_tokens : (tokens : List Token) → is_deep tokens ≡ false → is_crowded 64 tokens ≡ false
shallow_tokens tokens e = not_crowded (is_crowded 64 tokens) (is_much_negated 0 tokens) e

none_is : (tokens : List Token) → is_crowded 64 tokens ≡ false → clause_of tokens ≡ None → (c : Clause) → IsClause c tokens → ⊥
none_is tokens free none c is = let found = clause_of-again tokens c is free in let both : ◌≡◌ {A = Option Clause} None (Some c) = sym none ∙ found in cc

is_none : (tokens : List Token) (o : Option Clause) → clause_of tokens ≡ o → ((c : Clause) → IsClause c tokens → ⊥) → o ≡ None
is_none tokens None is none = refl
is_none tokens (Some c) is none = absurd (none c (clause_of-told tokens c is))

-- ---- tokens

read_some : (tokens : List Placed) (o : Option Clause) (read : ClauseRead) → clause_of (bare tokens) ≡ o → clause_read tokens o ≡ Ok read → IsClause read.clause (bare tokens) × (read.long ≡ long_of tokens)
read_some tokens None read is e = absurd cc
read_some tokens (Some c) read is e =
    let same : record { clause = c; long = long_of tokens } ≡ read = cc in
    (subst (λ r. IsClause r.clause (bare tokens)) same (clause_of-told (bare tokens) c is), sym (ap (λ r. r.long) same))

pub read_clause : (tokens : List Placed) (r : Result ClauseRead ClauseFault) → Answers refusal r (clause_read tokens (clause_of (bare tokens))) → IfOk r (λ read. IsClause read.clause (bare tokens))
read_clause tokens (Ok read) gives = (read_some tokens (clause_of (bare tokens)) read refl gives).0
read_clause tokens (Err e) gives = tt

pub read_long : (tokens : List Placed) (r : Result ClauseRead ClauseFault) → Answers refusal r (clause_read tokens (clause_of (bare tokens))) → IfOk r (λ read. read.long ≡ long_of tokens)
read_long tokens (Ok read) gives = (read_some tokens (clause_of (bare tokens)) read refl gives).1
read_long tokens (Err e) gives = tt

pub read_only : (tokens : List Placed) (c : Clause) → IsClause c (bare tokens) → is_crowded 64 (bare tokens) ≡ false → clause_read tokens (clause_of (bare tokens)) ≡ Ok (record { clause = c; long = long_of tokens })
read_only tokens c is free = ap (clause_read tokens) (clause_of-again (bare tokens) c is free)

none_read : (tokens : List Placed) (o : Option Clause) (k : QueryKind) → clause_read tokens o ≡ Err k → (kind.Syntax ≡ k) × (o ≡ None)
none_read tokens None k e = (cc, refl)
none_read tokens (Some c) k e = absurd cc

pub read_refused : (tokens : List Placed) (r : Result ClauseRead ClauseFault) → is_crowded 64 (bare tokens) ≡ false → Answers refusal r (clause_read tokens (clause_of (bare tokens))) → IfErr r (Tells refusal (IsNoClause tokens))
read_refused tokens (Ok read) free gives = tt
read_refused tokens (Err fault.OutOfMemory) free gives = tt
read_refused tokens (Err (fault.Bad k)) free gives =
    let none = none_read tokens (clause_of (bare tokens)) k gives in
    subst (IsNoClause tokens) none.0 (none_is (bare tokens) free none.1)

-- ---- the text

listed_found : (c d : Clause) (o : Option ℕ) → listed o c ≡ Ok d → (o ≡ None) × (c ≡ d)
listed_found c d None e = (refl, cc)
listed_found c d (Some at) e = absurd cc

spelled_found : (tokens : List Placed) (o : Option Clause) (c : Clause) → clause_of (bare tokens) ≡ o → spelled_by tokens o ≡ Ok c → (long_of tokens ≡ None) × IsClause c (bare tokens)
spelled_found tokens None c is e = absurd cc
spelled_found tokens (Some d) c is e =
    let told = listed_found d c (long_of tokens) e in
    (told.0, subst (λ x. IsClause x (bare tokens)) told.1 (clause_of-told (bare tokens) d is))

read_spelled : (text : List ℕ) (r : Result (List Placed) QueryKind) (c : Clause) → read_tokens text ≡ r → read_by r ≡ Ok c → SpellsClause c text
read_spelled text (Ok tokens) c is e =
    let told = spelled_found tokens (clause_of (bare tokens)) c refl e in
    record { tokens = tokens; has = read_found text tokens is; clause = told.1; short = told.0 }
read_spelled text (Err k) c is e = absurd cc

pub gives_clause : (text : List ℕ) (r : Result Clause ClauseFault) → Answers refusal r (read_where text) → IfOk r (λ c. SpellsClause c text)
unfolding read_where
gives_clause text (Ok c) gives = read_spelled text (read_tokens text) c refl gives
gives_clause text (Err e) gives = tt

pub spelled_read : (text : List ℕ) (c : Clause) → SpellsClause c text → read_where text ≡ Ok c
unfolding read_where
spelled_read text c is =
    let found = clause_of-again (bare is.tokens) c is.clause (shallow_tokens (bare is.tokens) is.has.shallow) in
    ap read_by (has_tokens text is.tokens is.has) ∙ (ap (spelled_by is.tokens) found ∙ ap (λ o. listed o c) is.short)

listed_refused : (text : List ℕ) (tokens : List Placed) (c : Clause) (o : Option ℕ) (k : QueryKind) → HasTokens text tokens → IsClause c (bare tokens) → long_of tokens ≡ o → listed o c ≡ Err k → NoClause text k
listed_refused text tokens c None k has is long e = absurd cc
listed_refused text tokens c (Some at) k has is long e =
    let same : kind.ListLength ≡ k = cc in
    subst (NoClause text) same (long_list tokens c at has is long)

spelled_refused : (text : List ℕ) (tokens : List Placed) (o : Option Clause) (k : QueryKind) → HasTokens text tokens → clause_of (bare tokens) ≡ o → spelled_by tokens o ≡ Err k → NoClause text k
spelled_refused text tokens None k has is e =
    let same : kind.Syntax ≡ k = cc in
    subst (NoClause text) same (no_clause tokens has (none_is (bare tokens) (shallow_tokens (bare tokens) has.shallow) is))
spelled_refused text tokens (Some c) k has is e = listed_refused text tokens c (long_of tokens) k has (clause_of-told (bare tokens) c is) refl e

read_no_clause : (text : List ℕ) (r : Result (List Placed) QueryKind) (k : QueryKind) → read_tokens text ≡ r → read_by r ≡ Err k → NoClause text k
read_no_clause text (Ok tokens) k is e = spelled_refused text tokens (clause_of (bare tokens)) k (read_found text tokens is) refl e
read_no_clause text (Err other) k is e =
    let same : other ≡ k = cc in
    subst (NoClause text) same (no_tokens other (laws.read_refused text other is))

pub gives_no_clause : (text : List ℕ) (r : Result Clause ClauseFault) → Answers refusal r (read_where text) → IfErr r (Tells refusal (NoClause text))
unfolding read_where
gives_no_clause text (Ok c) gives = tt
gives_no_clause text (Err fault.OutOfMemory) gives = tt
gives_no_clause text (Err (fault.Bad k)) gives = read_no_clause text (read_tokens text) k refl gives

pub no_clause_read : (text : List ℕ) (k : QueryKind) → NoClause text k → read_where text ≡ Err k
unfolding read_where
no_clause_read text _ (no_tokens k none) = ap read_by (laws.no_tokens text k none)
no_clause_read text _ (no_clause tokens has none) = ap read_by (has_tokens text tokens has) ∙ ap (spelled_by tokens) (is_none (bare tokens) (clause_of (bare tokens)) refl none)
no_clause_read text _ (long_list tokens c at has is long) =
    let found = clause_of-again (bare tokens) c is (shallow_tokens (bare tokens) has.shallow) in
    ap read_by (has_tokens text tokens has) ∙ (ap (spelled_by tokens) found ∙ ap (λ o. listed o c) long)
