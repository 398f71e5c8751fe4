-- The query of tokens: found where there is one, and one alone.
use Rattle.std.proofs.Common.{◌≡◌, ℕ, Bool, true, false, List, [], ◌∷◌, ◌++◌, refl, sym, ap, subst, ◌∙◌, ℤ}
use Rattle.std.specs.Prelude.{Option, Some, None, Ok, Err, IfSome, codes}
use Rattle.std.specs.Option.{option_map}
use Rattle.where_grammar.specs.declared.clause.Clause.{Clause}
use Rattle.where_grammar.specs.declared.clause.ClauseRead.{ClauseRead}
use Rattle.where_grammar.specs.declared.clause.QueryKind.{QueryKind}
use Rattle.where_grammar.specs.declared.clause.QueryKind.TheVariants as kind
use Rattle.where_grammar.specs.declared.token.Placed.{Placed}
use Rattle.where_grammar.specs.declared.token.Token.{Token}
use Rattle.where_grammar.specs.Language.{clause_read}
use Rattle.where_grammar.specs.Nesting.{is_crowded}
use Rattle.where_grammar.specs.Grammar.{IsClause, keyword}
use Rattle.where_grammar.specs.Parsing.{bare, clause_of, long_of}
use Rattle.where_grammar.proofs.Readings.{clause_of-again, one_clause}
use Rattle.query_grammar.specs.declared.query.Item.{Item}
use Rattle.query_grammar.specs.declared.query.OrderItem.{OrderItem}
use Rattle.query_grammar.specs.declared.query.Asked.{Asked}
use Rattle.query_grammar.specs.Grammar.{IsQuery, IsWhere, all_records, those_of}
use Rattle.query_grammar.specs.Language.{asked_or_refused, clause_or_refused, clause_or_syntax}
use Rattle.query_grammar.specs.Reading.{Parts, filled, filled_if_read, parts, parts_of, query_of, with_clause}
use Rattle.query_grammar.proofs.Told.{IsWhereOf, parts_told, query_told}
use Rattle.query_grammar.proofs.Rooms.{crowd_front, crowd_select}
use Rattle.query_grammar.proofs.Again.{clause_tokens, parts_again, parts_in}

-- ---- one query alone

same_clause : (a b : Option Clause) (one other : List Token) → IsWhere a one → IsWhere b other → clause_tokens a one ≡ clause_tokens b other → a ≡ b
same_clause _ _ _ _ all_records all_records e = refl
same_clause _ _ _ _ all_records (those_of d back also) e = absurd cc
same_clause _ _ _ _ (those_of c front is) all_records e = absurd cc
same_clause _ _ _ _ (those_of c front is) (those_of d back also) e =
    let same : front ≡ back = cc in
    ap Some (one_clause back c d (subst (IsClause c) same is) also)

record SameParts (p q : Parts) : Type 0 where
  select : p.select ≡ q.select
  clause : p.clause ≡ q.clause
  order : p.order ≡ q.order
  limit : p.limit ≡ q.limit

same_parts : (p q : Parts) → p ≡ q → SameParts p q
same_parts p q e = record { select = ap (λ x. x.select) e; clause = ap (λ x. x.clause) e; order = ap (λ x. x.order) e; limit = ap (λ x. x.limit) e }

same_asked : (a b : Asked) → a.select ≡ b.select → a.clause ≡ b.clause → a.order ≡ b.order → a.limit ≡ b.limit → a ≡ b
same_asked a b s c o l =
    let first : a ≡ record { select = b.select; clause = a.clause; order = a.order; limit = a.limit } = ap (λ x. record { select = x; clause = a.clause; order = a.order; limit = a.limit }) s in
    let second : record { select = b.select; clause = a.clause; order = a.order; limit = a.limit } ≡ record { select = b.select; clause = b.clause; order = a.order; limit = a.limit } = ap (λ x. record { select = b.select; clause = x; order = a.order; limit = a.limit }) c in
    let third : record { select = b.select; clause = b.clause; order = a.order; limit = a.limit } ≡ record { select = b.select; clause = b.clause; order = b.order; limit = a.limit } = ap (λ x. record { select = b.select; clause = b.clause; order = x; limit = a.limit }) o in
    let fourth : record { select = b.select; clause = b.clause; order = b.order; limit = a.limit } ≡ b = ap (λ x. record { select = b.select; clause = b.clause; order = b.order; limit = x }) l in
    first ∙ (second ∙ (third ∙ fourth))

inside : (p q : Parts) → Some p ≡ Some q → p ≡ q
inside p q e = cc

pub one_query : (tokens : List Token) (a b : Asked) → IsQuery a tokens → IsQuery b tokens → a ≡ b
one_query tokens a b is also =
    let p = parts_in a tokens is in
    let q = parts_in b tokens also in
    let same = same_parts p q (inside p q (sym (parts_again a tokens is) ∙ parts_again b tokens also)) in
    same_asked a b same.select (same_clause a.clause b.clause is.choosing also.choosing is.clause also.clause same.clause) same.order same.limit

-- ---- the clause has as much room as the whole

clause_room : (clause : Option (List Token)) (tokens inner : List Token) → IsWhereOf clause tokens → clause ≡ Some inner → is_crowded 64 tokens ≡ false → is_crowded 64 inner ≡ false
clause_room None tokens inner is e free = absurd cc
clause_room (Some found) tokens inner is e free =
    let same : found ≡ inner = cc in
    let here : is_crowded 64 (keyword (codes "where") ∷ found) ≡ false = ap (is_crowded 64) (sym is) ∙ free in
    subst (λ ts. is_crowded 64 ts ≡ false) same here

pub parts_room : (tokens : List Token) (p : Parts) (inner : List Token) → parts_of tokens ≡ Some p → p.clause ≡ Some inner → is_crowded 64 tokens ≡ false → is_crowded 64 inner ≡ false
parts_room tokens p inner e some free =
    let has = parts_told tokens p e in
    let behind = crowd_select p.select has.selecting has.select 64 (has.choosing ++ (has.sorting ++ has.ending)) (ap (is_crowded 64) (sym has.cut) ∙ free) in
    clause_room p.clause has.choosing inner has.clause some (crowd_front has.choosing (has.sorting ++ has.ending) 64 behind)

-- ---- each query is found

filled_again : (p : Parts) (found : Option Clause) (tokens : List Token) → IsWhere found tokens → ((inner : List Token) → clause_tokens found tokens ≡ Some inner → is_crowded 64 inner ≡ false) → filled p (clause_tokens found tokens) ≡ Some (with_clause p found)
filled_again p _ _ all_records free = refl
filled_again p _ _ (those_of c tokens is) free = ap (option_map (λ x. with_clause p (Some x))) (clause_of-again tokens c is (free tokens refl))

pub query_again : (tokens : List Token) (asked : Asked) → IsQuery asked tokens → is_crowded 64 tokens ≡ false → query_of tokens ≡ Some asked
unfolding query_of
query_again tokens asked is free =
    let p = parts_in asked tokens is in
    let found = parts_again asked tokens is in
    ap filled_if_read found ∙ filled_again p asked.clause is.choosing is.clause (λ inner some. parts_room tokens p inner found some free)

pub none_is : (tokens : List Token) → is_crowded 64 tokens ≡ false → query_of tokens ≡ None → (asked : Asked) → IsQuery asked tokens → ⊥
none_is tokens free none asked is = let found = query_again tokens asked is free in let both : ◌≡◌ {A = Option Asked} None (Some asked) = sym none ∙ found in cc

pub is_none : (tokens : List Token) (o : Option Asked) → query_of tokens ≡ o → ((asked : Asked) → IsQuery asked tokens → ⊥) → o ≡ None
is_none tokens None is none = refl
is_none tokens (Some asked) is none = absurd (none asked (query_told tokens asked is))

-- ---- steps of the code

room_if : (clause : Option (List Token)) → ((inner : List Token) → clause ≡ Some inner → is_crowded 64 inner ≡ false) → IfSome clause (λ inner. is_crowded 64 inner ≡ false)
room_if None free = tt
room_if (Some inner) free = free inner refl

pub parts_room_if : (tokens : List Token) (p : Parts) → parts_of tokens ≡ Some p → is_crowded 64 tokens ≡ false → IfSome p.clause (λ inner. is_crowded 64 inner ≡ false)
parts_room_if tokens p e free = room_if p.clause (λ inner some. parts_room tokens p inner e some free)

clause_on_by : (tokens : List Placed) (o : Option Clause) (read : ClauseRead) → clause_read tokens o ≡ Ok read → clause_or_syntax o ≡ Ok (Some read.clause)
clause_on_by tokens None read e = absurd cc
clause_on_by tokens (Some c) read e =
    let same : record { clause = c; long = long_of tokens } ≡ read = cc in
    ap (λ (r : ClauseRead). Ok (Some r.clause)) same

pub clause_on : (tokens : List Placed) (read : ClauseRead) → clause_read tokens (clause_of (bare tokens)) ≡ Ok read → clause_or_refused (Some (bare tokens)) ≡ Ok (Some read.clause)
clause_on tokens read e = clause_on_by tokens (clause_of (bare tokens)) read e

clause_off_by : (tokens : List Placed) (o : Option Clause) (k : QueryKind) → clause_read tokens o ≡ Err k → clause_or_syntax o ≡ Err k
clause_off_by tokens None k e = let same : kind.Syntax ≡ k = cc in ap Err same
clause_off_by tokens (Some c) k e = absurd cc

pub clause_off : (tokens : List Placed) (k : QueryKind) → clause_read tokens (clause_of (bare tokens)) ≡ Err k → clause_or_refused (Some (bare tokens)) ≡ Err k
clause_off tokens k e = clause_off_by tokens (clause_of (bare tokens)) k e

filled_on_by : (p : Parts) (o found : Option Clause) → clause_or_syntax o ≡ Ok found → asked_or_refused (option_map (λ c. with_clause p (Some c)) o) ≡ Ok (with_clause p found)
filled_on_by p None found e = absurd cc
filled_on_by p (Some c) found e = let same : Some c ≡ found = cc in ap (λ x. Ok (with_clause p x)) same

pub filled_on : (p : Parts) (clause : Option (List Token)) (found : Option Clause) → clause_or_refused clause ≡ Ok found → asked_or_refused (filled p clause) ≡ Ok (with_clause p found)
filled_on p None found e = let same : None ≡ found = cc in ap (λ x. Ok (with_clause p x)) same
filled_on p (Some tokens) found e = filled_on_by p (clause_of tokens) found e

filled_off_by : (p : Parts) (o : Option Clause) (k : QueryKind) → clause_or_syntax o ≡ Err k → asked_or_refused (option_map (λ c. with_clause p (Some c)) o) ≡ Err k
filled_off_by p None k e = let same : kind.Syntax ≡ k = cc in ap Err same
filled_off_by p (Some c) k e = absurd cc

pub filled_off : (p : Parts) (clause : Option (List Token)) (k : QueryKind) → clause_or_refused clause ≡ Err k → asked_or_refused (filled p clause) ≡ Err k
filled_off p None k e = absurd cc
filled_off p (Some tokens) k e = filled_off_by p (clause_of tokens) k e
