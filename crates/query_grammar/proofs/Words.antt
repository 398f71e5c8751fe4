-- Words of the language in queries, and where a clause ends.
use Rattle.std.proofs.Common.{◌≡◌, ℕ, Bool, true, false, List, [], ◌∷◌, ◌++◌, length, refl, ap, arith}
use Rattle.std.specs.Prelude.{Option, Some, None, codes, not}
use Rattle.std.specs.List.{list_all}
use Rattle.std.proofs.lemmas.Bool.{and_parts}
use Rattle.fb_types.specs.Names.{column_name, keywords}
use Rattle.where_grammar.specs.declared.clause.Clause.{Clause}
use Rattle.where_grammar.specs.declared.token.Token.{Token}
use Rattle.where_grammar.specs.declared.token.Token.TheVariants as t
use Rattle.where_grammar.specs.Grammar.{IsClause}
use Rattle.where_grammar.specs.Parsing.{after}
use Rattle.where_grammar.proofs.TokenTests.{not_keyword}
use Rattle.where_grammar.proofs.Within.{PassesClauses, clause_passes}
use Rattle.query_grammar.specs.Reading.{clause_len, ends_clause}

-- ---- names are no words of the language

pub count_none : column_name (codes "count") ≡ None
unfolding keywords
count_none = refl

pub min_none : column_name (codes "min") ≡ None
unfolding keywords
min_none = refl

pub max_none : column_name (codes "max") ≡ None
unfolding keywords
max_none = refl

pub sum_none : column_name (codes "sum") ≡ None
unfolding keywords
sum_none = refl

order_none : column_name (codes "order") ≡ None
unfolding keywords
order_none = refl

limit_none : column_name (codes "limit") ≡ None
unfolding keywords
limit_none = refl

-- ---- the token at the front

-- no token that passes the test is at the front
abbrev pub Lacks : (Token → Bool) → List Token → Type 0
Lacks test [] = Unit {0}
Lacks test (token ∷ tokens) = test token ≡ false

pub after-lacks : (test : Token → Bool) (tokens : List Token) → Lacks test tokens → after test tokens ≡ None
after-lacks test [] lacks = refl
after-lacks test (token ∷ tokens) lacks = rw lacks refl

-- ---- a clause has no `order` and no `limit`

abbrev pub goes_on : Token → Bool
goes_on token = not (ends_clause token)

name_goes_on : (word name : List ℕ) → column_name word ≡ Some name → goes_on (t.Word word) ≡ true
name_goes_on word name named =
    let o = not_keyword word name (codes "order") named order_none in
    let l = not_keyword word name (codes "limit") named limit_none in
    rw (o, l) refl

pub clause_goes_on : (c : Clause) (tokens : List Token) → IsClause c tokens → list_all goes_on tokens ≡ true
clause_goes_on c tokens is =
    clause_passes goes_on
    (record {
      names = name_goes_on;
      numbers_pass = λ z. refl;
      texts_pass = λ text. refl;
      signs = λ s. refl;
      or_word = refl;
      xor_word = refl;
      and_word = refl;
      not_word = refl;
      between_word = refl;
      in_word = refl;
      like_word = refl;
      exists_word = refl;
    })
    c tokens is

-- ---- where a clause ends

-- the front ends the clause, or nothing is there
abbrev pub EndsClause : List Token → Type 0
EndsClause [] = Unit {0}
EndsClause (token ∷ tokens) = ends_clause token ≡ true

clause_len-end : (rest : List Token) → EndsClause rest → clause_len rest ≡ 0
clause_len-end [] ends = refl
clause_len-end (token ∷ rest) ends = rw ends refl

pub clause_len-cut : (front rest : List Token) → list_all goes_on front ≡ true → EndsClause rest → clause_len (front ++ rest) ≡ length front
clause_len-cut [] rest all ends = clause_len-end rest ends
clause_len-cut (token ∷ front) rest all ends =
    let parts = and_parts (goes_on token) (list_all goes_on front) all in
    let less = clause_len-cut front rest parts.1 ends in
    let here : goes_on token ≡ true = parts.0 in
    rw (here, less) (omega arith)
