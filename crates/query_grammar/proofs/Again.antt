-- Each query is found.
use Rattle.std.proofs.Common.{◌≡◌, ℕ, zero, suc, ◌+◌, ◌≤◌, Bool, true, false, cond, List, [], ◌∷◌, ◌++◌, length, refl, sym, ap, subst, ◌∙◌, append_assoc, append-nil, arith, ℤ, take, drop}
use Rattle.std.specs.Prelude.{Option, Some, None, codes, ◌||◌}
use Rattle.std.specs.Option.{option_map, option_and_then}
use Rattle.std.proofs.lemmas.List.{drop_at, take_at}
use Rattle.fb_types.specs.Names.{column_name}
use Rattle.where_grammar.specs.declared.clause.Clause.{Clause}
use Rattle.where_grammar.specs.declared.token.Sign.TheVariants as sign
use Rattle.where_grammar.specs.declared.token.Token.{Token}
use Rattle.where_grammar.specs.declared.token.Token.TheVariants as t
use Rattle.where_grammar.specs.Nesting.{is_crowded, is_sign, is_word}
use Rattle.where_grammar.specs.Grammar.{IsClause, closing, comma, keyword, opening}
use Rattle.where_grammar.specs.Parsing.{At, after}
use Rattle.where_grammar.proofs.Lists.{item_then, with_item}
use Rattle.where_grammar.proofs.TokenTests.{not_keyword}
use Rattle.query_grammar.specs.declared.query.Item.{Item}
use Rattle.query_grammar.specs.declared.query.Item.TheVariants as item
use Rattle.query_grammar.specs.declared.query.OrderItem.{OrderItem}
use Rattle.query_grammar.specs.declared.query.Asked.{Asked}
use Rattle.query_grammar.specs.Grammar.{AreListed, IsItem, IsLimit, IsOrder, IsOrderItem, IsQuery, IsSelect, IsWhere, OnlyRows, all_records, all_rows, as_they_come, called, count_alone, counted, falling, first_rows, greatest, last, least, more, ordered_by, plain, rising, rows, sorted_by, star, summed, those_of, unsaid}
use Rattle.query_grammar.specs.Reading.{Parts, called_at, clause_len, counted_at, directed, ended, ends_clause, is_comma, item_at, item_from, limit_at, limit_by, listed_at, name_called, only_rows, order_at, order_by, order_item_at, ordered_parts, parts, parts_of, plain_item, select_at, select_by, where_at, where_by}
use Rattle.query_grammar.specs.Shorter.{Shrinks, item_at-shorter, order_item_at-shorter}
use Rattle.query_grammar.proofs.Steps.{listed-some, more_here, more_here-comma, more_here-none}
use Rattle.query_grammar.proofs.Told.{IsWhereOf}
use Rattle.query_grammar.proofs.Words.{EndsClause, Lacks, after-lacks, clause_goes_on, clause_len-cut, count_none, max_none, min_none, sum_none}

-- ---- items

name_called_again : (word name : List ℕ) (rest : List Token) → column_name word ≡ Some name → name_called (opening ∷ t.Word word ∷ closing ∷ rest) ≡ Some (name, rest)
unfolding name_called
name_called_again word name rest named = rw named refl

called_again : (make : List ℕ → Item) (word name : List ℕ) (rest : List Token) → column_name word ≡ Some name → called_at make (opening ∷ t.Word word ∷ closing ∷ rest) ≡ Some (make name, rest)
called_again make word name rest named = ap (option_map (λ found. (make found.0, found.1))) (name_called_again word name rest named)

counted_again : (rest : List Token) → counted_at (opening ∷ star ∷ closing ∷ rest) ≡ Some (item.CountAll, rest)
unfolding counted_at
counted_again rest = refl

plain_again : (word name : List ℕ) (rest : List Token) → column_name word ≡ Some name → item_at (t.Word word ∷ rest) ≡ Some (item.Plain name, rest)
plain_again word name rest named =
    let a = not_keyword word name (codes "count") named count_none in
    let b = not_keyword word name (codes "min") named min_none in
    let c = not_keyword word name (codes "max") named max_none in
    let d = not_keyword word name (codes "sum") named sum_none in
    rw (a, b, c, d, named) refl

pub item_again : (i : Item) (tokens rest : List Token) → IsItem i tokens → item_at (tokens ++ rest) ≡ Some (i, rest)
item_again _ _ rest (plain word name named) = plain_again word name rest named
item_again _ _ rest counted = counted_again rest
item_again _ _ rest (least word name named) = called_again item.Least word name rest named
item_again _ _ rest (greatest word name named) = called_again item.Greatest word name rest named
item_again _ _ rest (summed word name named) = called_again item.Sum word name rest named

-- ---- order items

-- no direction is at the front
record NoDirection (tokens : List Token) : Type 0 where
  no_asc : Lacks (is_word (codes "asc")) tokens
  no_desc : Lacks (is_word (codes "desc")) tokens

undirected : (i : Item) (rest : List Token) → NoDirection rest → directed i rest ≡ (ordered_by i false, rest)
undirected i [] none = refl
undirected i (token ∷ rest) none =
    let a : is_word (codes "asc") token ≡ false = none.no_asc in
    let d : is_word (codes "desc") token ≡ false = none.no_desc in
    rw (a, d) refl

with_direction : (i : Item) (tokens behind : List Token) (found : OrderItem × List Token) → IsItem i tokens → directed i behind ≡ found → order_item_at (tokens ++ behind) ≡ Some found
with_direction i tokens behind found is e = ap (option_map (λ f. directed f.0 f.1)) (item_again i tokens behind is) ∙ ap Some e

order_item_again : (o : OrderItem) (tokens rest : List Token) → IsOrderItem o tokens → NoDirection rest → order_item_at (tokens ++ rest) ≡ Some (o, rest)
order_item_again _ _ rest (unsaid i tokens is) none = with_direction i tokens rest (ordered_by i false, rest) is (undirected i rest none)
order_item_again _ _ rest (rising i tokens is) none = ap order_item_at (append_assoc tokens (keyword (codes "asc") ∷ []) rest) ∙ with_direction i tokens (keyword (codes "asc") ∷ rest) (ordered_by i false, rest) is refl
order_item_again _ _ rest (falling i tokens is) none = ap order_item_at (append_assoc tokens (keyword (codes "desc") ∷ []) rest) ∙ with_direction i tokens (keyword (codes "desc") ∷ rest) (ordered_by i true, rest) is refl

-- ---- lists

abbrev FindsAgain : {A : Type 0} → At A → (A → List Token → Type 0) → (List Token → Type 0) → Type 0
FindsAgain {A} part IsOne Good = (x : A) (tokens rest : List Token) → IsOne x tokens → Good rest → part (tokens ++ rest) ≡ Some (x, rest)

listed_again : {A : Type 0} (part : At A) (IsOne : A → List Token → Type 0) (Good : List Token → Type 0) → Shrinks part → FindsAgain part IsOne Good → ((tokens : List Token) → Good (comma ∷ tokens)) → (xs : List A) (tokens rest : List Token) → AreListed IsOne xs tokens → Good rest → Lacks is_comma rest
    → listed_at part (tokens ++ rest) ≡ Some (xs, rest)
listed_again part IsOne Good shrinks again comma_good _ _ rest (last one tokens is) good none =
    listed-some part (tokens ++ rest) one rest (again one tokens rest is good) ∙ ap (with_item one) (more_here-none part rest (after-lacks is_comma rest none))
listed_again part IsOne Good shrinks again comma_good _ _ rest (more one others front back is are) good none =
    let behind = comma ∷ (back ++ rest) in
    let cut : (front ++ (comma ∷ back)) ++ rest ≡ front ++ behind = append_assoc front (comma ∷ back) rest in
    let first = again one front behind is (comma_good (back ++ rest)) in
    let others_ = more_here-comma part shrinks behind (back ++ rest) refl ∙ listed_again part IsOne Good shrinks again comma_good others back rest are good none in
    ap (listed_at part) cut ∙ (listed-some part (front ++ behind) one behind first ∙ ap (with_item one) others_)

-- ---- the parts of a query

select_again : (items : Option (List Item)) (tokens rest : List Token) → IsSelect items tokens → Lacks (is_word (codes "select")) rest → Lacks is_comma rest → select_at (tokens ++ rest) ≡ Some (items, rest)
select_again _ _ rest count_alone none ends = ap (λ o. select_by o rest) (after-lacks (is_word (codes "select")) rest none)
select_again _ _ rest (rows items tokens are) none ends =
    ap (option_map (λ found. (Some found.0, found.1))) (listed_again item_at IsItem (λ _. Unit {0}) item_at-shorter (λ x ts r is _. item_again x ts r is) (λ _. tt) items tokens rest are tt ends)

where_again : (clause : Option (List Token)) (found : Option Clause) (tokens rest : List Token) → IsWhereOf clause tokens → IsWhere found tokens → Lacks (is_word (codes "where")) rest → EndsClause rest → where_at (tokens ++ rest) ≡ (clause, rest)
where_again None found tokens rest is_of is none ends = ap (λ ts. where_at (ts ++ rest)) is_of ∙ ap (λ o. where_by o rest) (after-lacks (is_word (codes "where")) rest none)
where_again (Some clause) found tokens rest is_of is none ends = ap (λ ts. where_at (ts ++ rest)) is_of ∙ cut_at clause (spelled found tokens clause is is_of)
  where
    no_where : (tokens clause : List Token) → tokens ≡ [] → tokens ≡ keyword (codes "where") ∷ clause → ⊥
    no_where tokens clause a b = let both : ◌≡◌ {A = List Token} [] (keyword (codes "where") ∷ clause) = sym a ∙ b in cc

    spelled : (found : Option Clause) (tokens clause : List Token) → IsWhere found tokens → tokens ≡ keyword (codes "where") ∷ clause → (c : Clause) × IsClause c clause
    spelled _ _ clause all_records e = absurd (no_where [] clause refl e)
    spelled _ _ clause (those_of c tokens is) e = let same : tokens ≡ clause = cc in (c, subst (IsClause c) same is)

    cut_at : (clause : List Token) → (c : Clause) × IsClause c clause → where_at (keyword (codes "where") ∷ (clause ++ rest)) ≡ (Some clause, rest)
    cut_at clause is =
        let n = clause_len-cut clause rest (clause_goes_on is.0 clause is.1) ends in
        let front : take (length clause) (clause ++ rest) ≡ clause = take_at clause rest (length clause) refl in
        let back : drop (length clause) (clause ++ rest) ≡ rest = drop_at clause rest (length clause) refl in
        rw (n, front, back) refl

order_again : (items : List OrderItem) (tokens rest : List Token) → IsOrder items tokens → Lacks (is_word (codes "order")) rest → Lacks is_comma rest → NoDirection rest → order_at (tokens ++ rest) ≡ Some (items, rest)
order_again _ _ rest as_they_come none ends undirected_ = ap (λ o. order_by o rest) (after-lacks (is_word (codes "order")) rest none)
order_again _ _ rest (sorted_by items tokens are) none ends undirected_ =
    listed_again order_item_at IsOrderItem NoDirection order_item_at-shorter order_item_again (λ _. record { no_asc = refl; no_desc = refl }) items tokens rest are undirected_ ends

limit_again : (n : Option ℤ) (tokens : List Token) → IsLimit n tokens → limit_at tokens ≡ Some (n, [])
limit_again _ _ all_rows = refl
limit_again _ _ (first_rows n) = refl

-- ---- what stands at the front of the parts

limit_lacks : (test : Token → Bool) (n : Option ℤ) (tokens : List Token) → IsLimit n tokens → test (keyword (codes "limit")) ≡ false → Lacks test tokens
limit_lacks test _ _ all_rows l = tt
limit_lacks test _ _ (first_rows n) l = l

order_lacks : (test : Token → Bool) (items : List OrderItem) (tokens rest : List Token) → IsOrder items tokens → test (keyword (codes "order")) ≡ false → Lacks test rest → Lacks test (tokens ++ rest)
order_lacks test _ _ rest as_they_come o r = r
order_lacks test _ _ rest (sorted_by items tokens are) o r = o

where_lacks : (test : Token → Bool) (found : Option Clause) (tokens rest : List Token) → IsWhere found tokens → test (keyword (codes "where")) ≡ false → Lacks test rest → Lacks test (tokens ++ rest)
where_lacks test _ _ rest all_records w r = r
where_lacks test _ _ rest (those_of c tokens is) w r = w

limit_ends : (n : Option ℤ) (tokens : List Token) → IsLimit n tokens → EndsClause tokens
limit_ends _ _ all_rows = tt
limit_ends _ _ (first_rows n) = refl

order_ends : (items : List OrderItem) (tokens rest : List Token) → IsOrder items tokens → EndsClause rest → EndsClause (tokens ++ rest)
order_ends _ _ rest as_they_come r = r
order_ends _ _ rest (sorted_by items tokens are) r = refl

-- ---- the whole

only_rows_again : (select : Option (List Item)) (order : List OrderItem) (limit : Option ℤ) → OnlyRows select order limit → only_rows select order limit ≡ true
only_rows_again (Some items) order limit shown = refl
only_rows_again None [] None shown = refl
only_rows_again None [] (Some n) shown = absurd cc
only_rows_again None (o ∷ order) limit shown = absurd cc

ended_again : (p : Parts) → OnlyRows p.select p.order p.limit → ended p [] ≡ Some p
ended_again p shown = let only = only_rows_again p.select p.order p.limit shown in rw only refl

-- the tokens of a query's clause
abbrev pub clause_tokens : Option Clause → List Token → Option (List Token)
clause_tokens None tokens = None
clause_tokens (Some c) [] = None
clause_tokens (Some c) (token ∷ tokens) = Some tokens

pub clause_tokens-are : (found : Option Clause) (tokens : List Token) → IsWhere found tokens → IsWhereOf (clause_tokens found tokens) tokens
clause_tokens-are _ _ all_records = refl
clause_tokens-are _ _ (those_of c tokens is) = refl

abbrev pub parts_in : (asked : Asked) (tokens : List Token) → IsQuery asked tokens → Parts
parts_in asked tokens is = parts asked.select (clause_tokens asked.clause is.choosing) asked.order asked.limit

pub parts_again : (asked : Asked) (tokens : List Token) (is : IsQuery asked tokens) → parts_of tokens ≡ Some (parts_in asked tokens is)
unfolding parts_of ordered_parts
parts_again asked tokens is =
    let behind = is.sorting ++ is.ending in
    let p = parts_in asked tokens is in
    let lacks = λ (test : Token → Bool) (o : test (keyword (codes "order")) ≡ false) (l : test (keyword (codes "limit")) ≡ false). order_lacks test asked.order is.sorting is.ending is.order o (limit_lacks test asked.limit is.ending is.limit l) in
    let s : select_at (is.selecting ++ (is.choosing ++ behind)) ≡ Some (asked.select, is.choosing ++ behind) =
    select_again asked.select is.selecting (is.choosing ++ behind) is.select
    (where_lacks (is_word (codes "select")) asked.clause is.choosing behind is.clause refl (lacks (is_word (codes "select")) refl refl))
    (where_lacks is_comma asked.clause is.choosing behind is.clause refl (lacks is_comma refl refl)) in
    let w : where_at (is.choosing ++ behind) ≡ (p.clause, behind) =
    where_again p.clause asked.clause is.choosing behind (clause_tokens-are asked.clause is.choosing is.clause) is.clause
    (lacks (is_word (codes "where")) refl refl) (order_ends asked.order is.sorting is.ending is.order (limit_ends asked.limit is.ending is.limit)) in
    let o : order_at behind ≡ Some (asked.order, is.ending) =
    order_again asked.order is.sorting is.ending is.order
    (limit_lacks (is_word (codes "order")) asked.limit is.ending is.limit refl)
    (limit_lacks is_comma asked.limit is.ending is.limit refl)
    (record { no_asc = limit_lacks (is_word (codes "asc")) asked.limit is.ending is.limit refl; no_desc = limit_lacks (is_word (codes "desc")) asked.limit is.ending is.limit refl }) in
    let l : limit_at is.ending ≡ Some (asked.limit, []) = limit_again asked.limit is.ending is.limit in
    let e : ended p [] ≡ Some p = ended_again p is.shown in
    ap parts_of is.cut ∙ rw (s, w, o, l) e
