-- What the function finds is a query.
use Rattle.std.proofs.Common.{◌≡◌, ℕ, zero, suc, ◌+◌, ◌≤◌, Bool, true, false, cond, List, [], ◌∷◌, ◌++◌, length, refl, sym, ap, subst, ◌∙◌, inl, inr, append_assoc, append-nil, arith, ℤ}
use Rattle.std.specs.Prelude.{Option, Some, None, codes, take, drop}
use Rattle.std.specs.Option.{option_map, option_and_then}
use Rattle.std.proofs.lemmas.List.{take-append-drop}
use Rattle.lexing.proofs.Cases.{chosen, mapped, chained}
use Rattle.where_grammar.specs.declared.clause.Clause.{Clause}
use Rattle.where_grammar.specs.declared.token.Sign.TheVariants as sign
use Rattle.where_grammar.specs.declared.token.Token.{Token}
use Rattle.where_grammar.specs.declared.token.Token.TheVariants as t
use Rattle.where_grammar.specs.Nesting.{is_close, is_open, is_sign, is_word}
use Rattle.where_grammar.specs.Grammar.{closing, comma, keyword, opening}
use Rattle.where_grammar.specs.Parsing.{At, after, clause_of, name_in, number_in, taken}
use Rattle.where_grammar.proofs.TokenTests.{after_told, name_told, number_told, sign_told, taken_told, word_told}
use Rattle.where_grammar.proofs.Clauses.{Cut, Finds, clause_of-told}
use Rattle.fb_types.specs.Names.{column_name}
use Rattle.query_grammar.specs.declared.query.Item.{Item}
use Rattle.query_grammar.specs.declared.query.Item.TheVariants as item
use Rattle.query_grammar.specs.declared.query.OrderItem.{OrderItem}
use Rattle.query_grammar.specs.declared.query.Asked.{Asked}
use Rattle.query_grammar.specs.Grammar.{AreListed, IsItem, IsLimit, IsOrder, IsOrderItem, IsQuery, IsSelect, IsWhere, OnlyRows, all_records, all_rows, as_they_come, called, count_alone, counted, falling, first_rows, greatest, last, least, more, ordered_by, plain, rising, rows, sorted_by, star, summed, those_of, unsaid}
use Rattle.query_grammar.specs.Reading.{Parts, at_end, called_at, clause_len, counted_at, directed, ended, filled, filled_if_read, is_comma, item_at, item_from, limit_at, limit_by, listed_at, more_behind, more_within, name_called, only_rows, order_at, order_by, order_item_at, ordered_parts, parts, parts_of, plain_item, query_of, select_at, select_by, where_at, where_by, with_clause}

-- ---- items

-- a name in parentheses
record IsCalled (tokens : List Token) (name : List ℕ) (rest : List Token) : Type 0 where
  word : List ℕ
  cut : tokens ≡ opening ∷ t.Word word ∷ closing ∷ rest
  named : column_name word ≡ Some name

name_called_told : (tokens : List Token) (found : List ℕ × List Token) → name_called tokens ≡ Some found → IsCalled tokens found.0 found.1
unfolding name_called
name_called_told tokens found e =
    let open_ = chained _ (after is_open tokens) found e in
    let name = chained _ (taken name_in open_.0) found open_.1.1 in
    let shut = mapped (λ end. (name.0.0, end)) (after is_close name.0.1) found name.1.1 in
    let a = after_told is_open tokens open_.0 open_.1.0 in
    let b = taken_told name_in open_.0 name.0 name.1.0 in
    let n = name_told b.token name.0.0 b.passed in
    let c = after_told is_close name.0.1 shut.0 shut.1.0 in
    let first : tokens ≡ opening ∷ open_.0 = a.cut ∙ ap (λ x. x ∷ open_.0) (sign_told sign.Open a.token a.passed) in
    let second : open_.0 ≡ t.Word n.word ∷ name.0.1 = b.cut ∙ ap (λ x. x ∷ name.0.1) n.token_is in
    let third : name.0.1 ≡ closing ∷ shut.0 = c.cut ∙ ap (λ x. x ∷ shut.0) (sign_told sign.Close c.token c.passed) in
    let whole : tokens ≡ opening ∷ t.Word n.word ∷ closing ∷ shut.0 = first ∙ ap (λ ts. opening ∷ ts) (second ∙ ap (λ ts. t.Word n.word ∷ ts) third) in
    subst (λ f. IsCalled tokens f.0 f.1) shut.1.1 (record { word = n.word; cut = whole; named = n.named })

counted_told : (tokens : List Token) (found : Item × List Token) → counted_at tokens ≡ Some found → Cut IsItem (keyword (codes "count") ∷ tokens) found
unfolding counted_at
counted_told tokens found e =
    let open_ = chained _ (after is_open tokens) found e in
    let star_ = chained _ (after (is_sign sign.Star) open_.0) found open_.1.1 in
    let shut = mapped (λ end. (item.CountAll, end)) (after is_close star_.0) found star_.1.1 in
    let a = after_told is_open tokens open_.0 open_.1.0 in
    let b = after_told (is_sign sign.Star) open_.0 star_.0 star_.1.0 in
    let c = after_told is_close star_.0 shut.0 shut.1.0 in
    let first : tokens ≡ opening ∷ open_.0 = a.cut ∙ ap (λ x. x ∷ open_.0) (sign_told sign.Open a.token a.passed) in
    let second : open_.0 ≡ star ∷ star_.0 = b.cut ∙ ap (λ x. x ∷ star_.0) (sign_told sign.Star b.token b.passed) in
    let third : star_.0 ≡ closing ∷ shut.0 = c.cut ∙ ap (λ x. x ∷ shut.0) (sign_told sign.Close c.token c.passed) in
    let whole : keyword (codes "count") ∷ tokens ≡ keyword (codes "count") ∷ opening ∷ star ∷ closing ∷ shut.0 = ap (λ ts. keyword (codes "count") ∷ ts) (first ∙ ap (λ ts. opening ∷ ts) (second ∙ ap (λ ts. star ∷ ts) third)) in
    subst (Cut IsItem (keyword (codes "count") ∷ tokens)) shut.1.1 (record { front = keyword (codes "count") ∷ opening ∷ star ∷ closing ∷ []; cut = whole; spelled = counted })

called_told : (text : List ℕ) (make : List ℕ → Item) → ((word name : List ℕ) → column_name word ≡ Some name → IsItem (make name) (called text word)) → (tokens : List Token) (found : Item × List Token) → called_at make tokens ≡ Some found → Cut IsItem (keyword text ∷ tokens) found
called_told text make spells tokens found e =
    let h = mapped (λ f. (make f.0, f.1)) (name_called tokens) found e in
    let is = name_called_told tokens h.0 h.1.0 in
    subst (Cut IsItem (keyword text ∷ tokens)) h.1.1 (record { front = called text is.word; cut = ap (λ ts. keyword text ∷ ts) is.cut; spelled = spells is.word h.0.0 is.named })

plain_told : (token : Token) (tokens : List Token) (found : Item × List Token) → plain_item token tokens ≡ Some found → Cut IsItem (token ∷ tokens) found
plain_told token tokens found e =
    let h = mapped (λ name. (item.Plain name, tokens)) (name_in token) found e in
    let n = name_told token h.0 h.1.0 in
    subst (Cut IsItem (token ∷ tokens)) h.1.1 (record { front = t.Word n.word ∷ []; cut = ap (λ x. x ∷ tokens) n.token_is; spelled = plain n.word h.0 n.named })

-- the front's first token, for what it is told to be
by_word : (text : List ℕ) (token : Token) (tokens : List Token) (found : Item × List Token) → is_word text token ≡ true → Cut IsItem (keyword text ∷ tokens) found → Cut IsItem (token ∷ tokens) found
by_word text token tokens found e is = subst (λ x. Cut IsItem (x ∷ tokens) found) (sym (word_told text token e)) is

item_from_told : (token : Token) (tokens : List Token) (found : Item × List Token) → item_from token tokens ≡ Some found → Cut IsItem (token ∷ tokens) found
item_from_told token tokens found e =
    let plain_ : Option (Item × List Token) = plain_item token tokens in
    let sum : Option (Item × List Token) = cond (is_word (codes "sum") token) (called_at item.Sum tokens) plain_ in
    let max : Option (Item × List Token) = cond (is_word (codes "max") token) (called_at item.Greatest tokens) sum in
    let min : Option (Item × List Token) = cond (is_word (codes "min") token) (called_at item.Least tokens) max in
    elim (chosen (is_word (codes "count") token) (counted_at tokens) min (Some found) e) [
      | inl h ↦ by_word (codes "count") token tokens found h.0 (counted_told tokens found h.1)
      | inr h ↦ elim (chosen (is_word (codes "min") token) (called_at item.Least tokens) max (Some found) h.1) [
        | inl g ↦ by_word (codes "min") token tokens found g.0 (called_told (codes "min") item.Least least tokens found g.1)
        | inr g ↦ elim (chosen (is_word (codes "max") token) (called_at item.Greatest tokens) sum (Some found) g.1) [
          | inl f ↦ by_word (codes "max") token tokens found f.0 (called_told (codes "max") item.Greatest greatest tokens found f.1)
          | inr f ↦ elim (chosen (is_word (codes "sum") token) (called_at item.Sum tokens) plain_ (Some found) f.1) [
            | inl k ↦ by_word (codes "sum") token tokens found k.0 (called_told (codes "sum") item.Sum summed tokens found k.1)
            | inr k ↦ plain_told token tokens found k.1
          ]
        ]
      ]
    ]

pub item_told : Finds item_at IsItem
item_told [] found e = absurd cc
item_told (token ∷ tokens) found e = item_from_told token tokens found e

-- ---- order items

-- tokens that complete an order item whose item has been read
record Directs (i : Item) (front tokens : List Token) (found : OrderItem × List Token) : Type 0 where
  middle : List Token
  cut : tokens ≡ middle ++ found.1
  spelled : IsOrderItem found.0 (front ++ middle)

directed_by : (i : Item) (front : List Token) (token : Token) (tokens : List Token) (asc desc : Bool) → is_word (codes "asc") token ≡ asc → is_word (codes "desc") token ≡ desc → IsItem i front
    → Directs i front (token ∷ tokens) (cond {A = OrderItem × List Token} asc (ordered_by i false, tokens) (cond desc (ordered_by i true, tokens) (ordered_by i false, token ∷ tokens)))
directed_by i front token tokens true desc a d is = record { middle = keyword (codes "asc") ∷ []; cut = ap (λ x. x ∷ tokens) (word_told (codes "asc") token a); spelled = rising i front is }
directed_by i front token tokens false true a d is = record { middle = keyword (codes "desc") ∷ []; cut = ap (λ x. x ∷ tokens) (word_told (codes "desc") token d); spelled = falling i front is }
directed_by i front token tokens false false a d is = record { middle = []; cut = refl; spelled = unsaid i (front ++ []) (subst (IsItem i) (sym (append-nil front)) is) }

directed_told : (i : Item) (front tokens : List Token) → IsItem i front → Directs i front tokens (directed i tokens)
directed_told i front [] is = record { middle = []; cut = refl; spelled = unsaid i (front ++ []) (subst (IsItem i) (sym (append-nil front)) is) }
directed_told i front (token ∷ tokens) is = directed_by i front token tokens (is_word (codes "asc") token) (is_word (codes "desc") token) refl refl is

pub order_item_told : Finds order_item_at IsOrderItem
order_item_told tokens found e =
    let h = mapped (λ f. directed f.0 f.1) (item_at tokens) found e in
    let cut = item_told tokens h.0 h.1.0 in
    let by = directed_told h.0.0 cut.front h.0.1 cut.spelled in
    subst (Cut IsOrderItem tokens) h.1.1
    (record { front = cut.front ++ by.middle; cut = cut.cut ∙ (ap (λ ts. cut.front ++ ts) by.cut ∙ sym (append_assoc cut.front by.middle (directed h.0.0 h.0.1).1)); spelled = by.spelled })

-- ---- lists

-- tokens with which a list that begins with this front goes on
record GoesOn {A : Type 0} (IsOne : A → List Token → Type 0) (first : A) (front tokens : List Token) (found : List A × List Token) : Type 0 where
  middle : List Token
  cut : tokens ≡ middle ++ found.1
  spelled : AreListed IsOne (first ∷ found.0) (front ++ middle)

ends_here : {A : Type 0} (IsOne : A → List Token → Type 0) (first : A) (front tokens : List Token) (found : List A × List Token) → IsOne first front → ([], tokens) ≡ found → GoesOn IsOne first front tokens found
ends_here IsOne first front tokens found is same =
    subst (GoesOn IsOne first front tokens) same (record { middle = []; cut = refl; spelled = last first (front ++ []) (subst (IsOne first) (sym (append-nil front)) is) })

behind_comma : {A : Type 0} (IsOne : A → List Token → Type 0) (first second : A) (others : List A) (front tokens next back rest : List Token) → IsOne first front → tokens ≡ next ++ back → GoesOn IsOne second next back (others, rest)
    → GoesOn IsOne first front (comma ∷ tokens) (second ∷ others, rest)
behind_comma IsOne first second others front tokens next back rest is cut goes =
    record { middle = comma ∷ (next ++ goes.middle); cut = ap (λ ts. comma ∷ ts) (cut ∙ (ap (λ ts. next ++ ts) goes.cut ∙ sym (append_assoc next goes.middle rest))); spelled = more first (second ∷ others) front (next ++ goes.middle) is goes.spelled }

abbrev behind_one : {A : Type 0} → At A → ℕ → At (List A)
behind_one part n tokens = option_and_then (λ found. option_map (λ more. (found.0 ∷ more.0, more.1)) (more_within part n found.1)) (part tokens)

more_told : {A : Type 0} (part : At A) (IsOne : A → List Token → Type 0) → Finds part IsOne → (n : ℕ) (first : A) (front tokens : List Token) (found : List A × List Token) → IsOne first front → more_within part n tokens ≡ Some found → GoesOn IsOne first front tokens found
more_told part IsOne finds n first front [] found is e = ends_here IsOne first front [] found is cc
more_told part IsOne finds zero first front (token ∷ tokens) found is e = ends_here IsOne first front (token ∷ tokens) found is cc
more_told part IsOne finds (suc n) first front (token ∷ tokens) found is e =
    elim (chosen (is_comma token) (behind_one part n tokens) (Some ([], token ∷ tokens)) (Some found) e) [
      | inl h ↦ (
          let second = chained (λ found. option_map (λ more. (found.0 ∷ more.0, more.1)) (more_within part n found.1)) (part tokens) found h.1 in
          let others = mapped (λ more. (second.0.0 ∷ more.0, more.1)) (more_within part n second.0.1) found second.1.1 in
          let cut = finds tokens second.0 second.1.0 in
          let goes = behind_comma IsOne first second.0.0 others.0.0 front tokens cut.front second.0.1 others.0.1 is cut.cut (more_told part IsOne finds n second.0.0 cut.front second.0.1 others.0 cut.spelled others.1.0) in
          subst (λ x. GoesOn IsOne first front (x ∷ tokens) found) (sym (sign_told sign.Comma token h.0)) (subst (GoesOn IsOne first front (comma ∷ tokens)) others.1.1 goes))
      | inr h ↦ ends_here IsOne first front (token ∷ tokens) found is cc
    ]

pub listed_told : {A : Type 0} (part : At A) (IsOne : A → List Token → Type 0) → Finds part IsOne → Finds (listed_at part) (AreListed IsOne)
listed_told part IsOne finds tokens found e =
    let first = chained (λ first. more_behind part first.0 first.1) (part tokens) found e in
    let others = mapped (λ more. (first.0.0 ∷ more.0, more.1)) (more_within part (length first.0.1) first.0.1) found first.1.1 in
    let cut = finds tokens first.0 first.1.0 in
    let goes = more_told part IsOne finds (length first.0.1) first.0.0 cut.front first.0.1 others.0 cut.spelled others.1.0 in
    subst (Cut (AreListed IsOne) tokens) others.1.1
    (record { front = cut.front ++ goes.middle; cut = cut.cut ∙ (ap (λ ts. cut.front ++ ts) goes.cut ∙ sym (append_assoc cut.front goes.middle others.0.1)); spelled = goes.spelled })

-- ---- the parts of a query

-- the word at the front
word_front : (text : List ℕ) (tokens behind : List Token) → after (is_word text) tokens ≡ Some behind → tokens ≡ keyword text ∷ behind
word_front text tokens behind e =
    let h = after_told (is_word text) tokens behind e in
    h.cut ∙ ap (λ x. x ∷ behind) (word_told text h.token h.passed)

select_by_told : (o : Option (List Token)) (tokens : List Token) (found : Option (List Item) × List Token) → after (is_word (codes "select")) tokens ≡ o → select_by o tokens ≡ Some found → Cut IsSelect tokens found
select_by_told None tokens found is e =
    let same : ◌≡◌ {A = Option (List Item) × List Token} (None, tokens) found = cc in
    subst (Cut IsSelect tokens) same (record { front = []; cut = refl; spelled = count_alone })
select_by_told (Some behind) tokens found is e =
    let h = mapped (λ f. (Some f.0, f.1)) (listed_at item_at behind) found e in
    let cut = listed_told item_at IsItem item_told behind h.0 h.1.0 in
    subst (Cut IsSelect tokens) h.1.1 (record { front = keyword (codes "select") ∷ cut.front; cut = word_front (codes "select") tokens behind is ∙ ap (λ ts. keyword (codes "select") ∷ ts) cut.cut; spelled = rows h.0.0 cut.front cut.spelled })

pub select_told : Finds select_at IsSelect
select_told tokens found e = select_by_told (after (is_word (codes "select")) tokens) tokens found refl e

-- tokens that are a clause's, where the query has one
abbrev pub IsWhereOf : Option (List Token) → List Token → Type 0
IsWhereOf None tokens = tokens ≡ []
IsWhereOf (Some clause) tokens = tokens ≡ keyword (codes "where") ∷ clause

where_by_told : (o : Option (List Token)) (tokens : List Token) → after (is_word (codes "where")) tokens ≡ o → Cut IsWhereOf tokens (where_by o tokens)
where_by_told None tokens is = record { front = []; cut = refl; spelled = refl }
where_by_told (Some behind) tokens is =
    let n = clause_len behind in
    record { front = keyword (codes "where") ∷ take n behind; cut = word_front (codes "where") tokens behind is ∙ ap (λ ts. keyword (codes "where") ∷ ts) (sym (take-append-drop n behind)); spelled = refl }

pub where_told : (tokens : List Token) → Cut IsWhereOf tokens (where_at tokens)
where_told tokens = where_by_told (after (is_word (codes "where")) tokens) tokens refl

order_by_told : (o : Option (List Token)) (tokens : List Token) (found : List OrderItem × List Token) → after (is_word (codes "order")) tokens ≡ o → order_by o tokens ≡ Some found → Cut IsOrder tokens found
order_by_told None tokens found is e =
    let same : ◌≡◌ {A = List OrderItem × List Token} ([], tokens) found = cc in
    subst (Cut IsOrder tokens) same (record { front = []; cut = refl; spelled = as_they_come })
order_by_told (Some behind) tokens found is e =
    let by = chained (listed_at order_item_at) (after (is_word (codes "by")) behind) found e in
    let cut = listed_told order_item_at IsOrderItem order_item_told by.0 found by.1.1 in
    record {
      front = keyword (codes "order") ∷ keyword (codes "by") ∷ cut.front;
      cut = word_front (codes "order") tokens behind is ∙ ap (λ ts. keyword (codes "order") ∷ ts) (word_front (codes "by") behind by.0 by.1.0 ∙ ap (λ ts. keyword (codes "by") ∷ ts) cut.cut);
      spelled = sorted_by found.0 cut.front cut.spelled;
    }

order_told : Finds order_at IsOrder
order_told tokens found e = order_by_told (after (is_word (codes "order")) tokens) tokens found refl e

limit_by_told : (o : Option (List Token)) (tokens : List Token) (found : Option ℤ × List Token) → after (is_word (codes "limit")) tokens ≡ o → limit_by o tokens ≡ Some found → Cut IsLimit tokens found
limit_by_told None tokens found is e =
    let same : ◌≡◌ {A = Option ℤ × List Token} (None, tokens) found = cc in
    subst (Cut IsLimit tokens) same (record { front = []; cut = refl; spelled = all_rows })
limit_by_told (Some behind) tokens found is e =
    let h = mapped (λ f. (Some f.0, f.1)) (taken number_in behind) found e in
    let n = taken_told number_in behind h.0 h.1.0 in
    let cut : behind ≡ t.Number h.0.0 ∷ h.0.1 = n.cut ∙ ap (λ x. x ∷ h.0.1) (number_told n.token h.0.0 n.passed) in
    subst (Cut IsLimit tokens) h.1.1 (record { front = keyword (codes "limit") ∷ t.Number h.0.0 ∷ []; cut = word_front (codes "limit") tokens behind is ∙ ap (λ ts. keyword (codes "limit") ∷ ts) cut; spelled = first_rows h.0.0 })

limit_told : Finds limit_at IsLimit
limit_told tokens found e = limit_by_told (after (is_word (codes "limit")) tokens) tokens found refl e

-- ---- the whole

only_rows_told : (select : Option (List Item)) (order : List OrderItem) (limit : Option ℤ) → only_rows select order limit ≡ true → OnlyRows select order limit
only_rows_told (Some items) order limit e = tt
only_rows_told None [] None e = (refl, refl)
only_rows_told None [] (Some n) e = absurd cc
only_rows_told None (o ∷ order) limit e = absurd cc

-- the tokens have these parts, the clause among them as tokens
pub record HasParts (p : Parts) (tokens : List Token) : Type 0 where
  pub selecting : List Token
  pub choosing : List Token
  pub sorting : List Token
  pub ending : List Token
  pub cut : tokens ≡ selecting ++ (choosing ++ (sorting ++ ending))
  pub select : IsSelect p.select selecting
  pub clause : IsWhereOf p.clause choosing
  pub order : IsOrder p.order sorting
  pub limit : IsLimit p.limit ending
  pub shown : OnlyRows p.select p.order p.limit

ended_told : (p q : Parts) (rest : List Token) → ended p rest ≡ Some q → (rest ≡ []) × (only_rows p.select p.order p.limit ≡ true) × (p ≡ q)
ended_told p q [] e =
    elim (chosen (only_rows p.select p.order p.limit) (Some p) None (Some q) e) [
      | inl h ↦ (refl, h.0, cc)
      | inr h ↦ absurd cc
    ]
ended_told p q (token ∷ rest) e = absurd cc

pub parts_told : (tokens : List Token) (p : Parts) → parts_of tokens ≡ Some p → HasParts p tokens
unfolding parts_of ordered_parts
parts_told tokens p e =
    let s = chained _ (select_at tokens) p e in
    let w = where_at s.0.1 in
    let o = chained _ (order_at w.1) p s.1.1 in
    let l = chained _ (limit_at o.0.1) p o.1.1 in
    let end = ended_told (parts s.0.0 w.0 o.0.0 l.0.0) p l.0.1 l.1.1 in
    let cs = select_told tokens s.0 s.1.0 in
    let cw = where_told s.0.1 in
    let co = order_told w.1 o.0 o.1.0 in
    let cl = limit_told o.0.1 l.0 l.1.0 in
    let last_ : cl.front ++ l.0.1 ≡ cl.front = ap (λ ts. cl.front ++ ts) end.0 ∙ append-nil cl.front in
    let whole : tokens ≡ cs.front ++ (cw.front ++ (co.front ++ cl.front)) = cs.cut ∙ ap (λ ts. cs.front ++ ts) (cw.cut ∙ ap (λ ts. cw.front ++ ts) (co.cut ∙ ap (λ ts. co.front ++ ts) (cl.cut ∙ last_))) in
    subst (λ q. HasParts q tokens) end.2
    (record { selecting = cs.front; choosing = cw.front; sorting = co.front; ending = cl.front; cut = whole; select = cs.spelled; clause = cw.spelled; order = co.spelled; limit = cl.spelled; shown = only_rows_told s.0.0 o.0.0 l.0.0 end.1 })

filled_told : (p : Parts) (clause : Option (List Token)) (asked : Asked) (tokens : List Token) → IsWhereOf clause tokens → filled p clause ≡ Some asked → (found : Option Clause) × IsWhere found tokens × (with_clause p found ≡ asked)
filled_told p None asked tokens is e = (None, subst (IsWhere None) (sym is) all_records, cc)
filled_told p (Some clause) asked tokens is e =
    let h = mapped (λ c. with_clause p (Some c)) (clause_of clause) asked e in
    (Some h.0, subst (IsWhere (Some h.0)) (sym is) (those_of h.0 clause (clause_of-told clause h.0 h.1.0)), h.1.1)

filled_if_told : (o : Option Parts) (tokens : List Token) (asked : Asked) → parts_of tokens ≡ o → filled_if_read o ≡ Some asked → IsQuery asked tokens
filled_if_told None tokens asked is e = absurd cc
filled_if_told (Some p) tokens asked is e =
    let has = parts_told tokens p is in
    let c = filled_told p p.clause asked has.choosing has.clause e in
    subst (λ a. IsQuery a tokens) c.2
    (record { selecting = has.selecting; choosing = has.choosing; sorting = has.sorting; ending = has.ending; cut = has.cut; select = has.select; clause = c.1; order = has.order; limit = has.limit; shown = has.shown })

pub query_told : (tokens : List Token) (asked : Asked) → query_of tokens ≡ Some asked → IsQuery asked tokens
unfolding query_of
query_told tokens asked e = filled_if_told (parts_of tokens) tokens asked refl e
