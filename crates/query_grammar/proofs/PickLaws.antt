-- What a query selects: once, and where nothing is refused.
use Rattle.std.proofs.Common.{◌≡◌, ℕ, zero, suc, ◌+◌, ◌<◌, Bool, true, false, cond, not, ◌||◌, List, [], ◌∷◌, ◌++◌, length, map, refl, sym, ap, subst, ◌∙◌, inl, inr, take, drop, get_or, arith}
use Rattle.std.specs.Prelude.{Option, Some, None, Result, Ok, Err, IfOk, IfErr, IfSome, is_some, nat_lt, position}
use Rattle.std.specs.List.{AllByRecursion, AllZip, list_any, prefix_len}
use Rattle.std.proofs.Math.Seq.{drop-cons}
use Rattle.std.proofs.lemmas.Bool.Decides.{nat_tests}
use Rattle.std.proofs.lemmas.Grind.{common_steps}
use Rattle.std.proofs.lemmas.List.{take-append-drop}
use Rattle.answers.specs.Answers.{Answers, Tells}
use Rattle.lexing.proofs.Cases.{chosen}
use Rattle.fb_types.specs.declared.schemas.Column.{Column}
use Rattle.fb_types.specs.declared.types.ColType.{ColType}
use Rattle.fb_types.specs.Schemas.{place_of}
use Rattle.fb_types.specs.Types.{ends_of}
use Rattle.query_grammar.specs.declared.query.Item.{Item}
use Rattle.query_grammar.specs.declared.query.Item.TheVariants as item
use Rattle.query_grammar.specs.declared.query.OrderItem.{OrderItem}
use Rattle.query_grammar.specs.declared.query.Query.{Query}
use Rattle.query_grammar.specs.declared.picking.PickItem.{PickItem}
use Rattle.query_grammar.specs.declared.picking.PickItem.TheVariants as pick
use Rattle.query_grammar.specs.declared.picking.OrderPlace.{OrderPlace}
use Rattle.query_grammar.specs.declared.picking.Pick.{Pick}
use Rattle.query_grammar.specs.declared.picking.SelectKind.{SelectKind}
use Rattle.query_grammar.specs.declared.picking.SelectKind.TheVariants as kind
use Rattle.query_grammar.specs.declared.picking.SelectFault.{SelectFault}
use Rattle.query_grammar.specs.declared.picking.SelectFault.TheVariants as fault
use Rattle.query_grammar.specs.Picks.{ArePicked, ArePlaced, IsOfNumbers, IsPick, IsPickIn, IsPickOf, IsPicked, IsPlaced, IsSoundPick, column_named, is_aggregate, is_total, same_item}
use Rattle.query_grammar.specs.Refusals.{first_some, item_refusal, list_refusal, number_refusal, order_refusal, refusal, select_refusal}

-- ---- lists place by place

pub zip_push : {A B : Type 0} (R : A → B → Type 0) (xs : List A) (ys : List B) (x : A) (y : B) → AllZip R xs ys → R x y → AllZip R (xs ++ x ∷ []) (ys ++ y ∷ [])
zip_push R [] [] x y all one = (one, tt)
zip_push R [] (b ∷ ys) x y all one = absurd all
zip_push R (a ∷ xs) [] x y all one = absurd all
zip_push R (a ∷ xs) (b ∷ ys) x y all one = (all.0, zip_push R xs ys x y all.1 one)

pub zip_same : {A B : Type 0} (R : A → B → Type 0) → ((a : A) (b c : B) → R a b → R a c → b ≡ c) → (xs : List A) (ys zs : List B) → AllZip R xs ys → AllZip R xs zs → ys ≡ zs
zip_same R one [] [] [] a b = refl
zip_same R one [] [] (z ∷ zs) a b = absurd b
zip_same R one [] (y ∷ ys) zs a b = absurd a
zip_same R one (x ∷ xs) [] zs a b = absurd a
zip_same R one (x ∷ xs) (y ∷ ys) [] a b = absurd b
zip_same R one (x ∷ xs) (y ∷ ys) (z ∷ zs) a b =
    let first = one x y z a.0 b.0 in
    let rest = zip_same R one xs ys zs a.1 b.1 in
    cc

-- where each of a list has its partner, none is refused
pub zip_none : {A B K : Type 0} (R : A → B → Type 0) (refusal : A → Option K) → ((a : A) (b : B) → R a b → refusal a ≡ None) → (xs : List A) (ys : List B) → AllZip R xs ys → first_some (map refusal xs) ≡ None
zip_none R refusal none [] [] all = refl
zip_none R refusal none [] (y ∷ ys) all = absurd all
zip_none R refusal none (x ∷ xs) [] all = absurd all
zip_none R refusal none (x ∷ xs) (y ∷ ys) all = let here : refusal x ≡ None = none x y all.0 in rw here (zip_none R refusal none xs ys all.1)

-- the first refusal is that of the first that has no partner
pub first_refused : {A B K : Type 0} (R : A → B → Type 0) (refusal : A → Option K) → ((a : A) (b : B) → R a b → refusal a ≡ None) → (xs : List A) (ys : List B) (x : A) (rest : List A) (k : K) → AllZip R xs ys → refusal x ≡ Some k → first_some (map refusal (xs ++ x ∷ rest)) ≡ Some k
first_refused R refusal none [] [] x rest k all e = rw e refl
first_refused R refusal none [] (y ∷ ys) x rest k all e = absurd all
first_refused R refusal none (a ∷ xs) [] x rest k all e = absurd all
first_refused R refusal none (a ∷ xs) (y ∷ ys) x rest k all e = let here : refusal a ≡ None = none a y all.0 in rw here (first_refused R refusal none xs ys x rest k all.1 e)

pub first_some-append : {K : Type 0} (front back : List (Option K)) → first_some front ≡ None → first_some (front ++ back) ≡ first_some back
first_some-append [] back e = refl
first_some-append (None ∷ front) back e = first_some-append front back e
first_some-append (Some k ∷ front) back e = absurd cc

pub first_some-front : {K : Type 0} (front back : List (Option K)) (k : K) → first_some front ≡ Some k → first_some (front ++ back) ≡ Some k
first_some-front [] back k e = absurd cc
first_some-front (None ∷ front) back k e = first_some-front front back k e
first_some-front (Some x ∷ front) back k e = e

-- ---- a step of a walk

taken_more : {A : Type 0} (xs : List A) (i : ℕ) (x : A) → i < length xs → x ≡ get_or xs i x → take (i + 1) xs ≡ take i xs ++ x ∷ []
taken_more xs i x h e = grind (arith, common_steps)

cut_at : {A : Type 0} (xs : List A) (i : ℕ) (x : A) → i < length xs → x ≡ get_or xs i x → xs ≡ take i xs ++ x ∷ drop (suc i) xs
cut_at xs i x h e = sym (take-append-drop i xs) ∙ ap (λ ys. take i xs ++ ys) (drop-cons xs i x h ∙ ap (λ y. y ∷ drop (suc i) xs) (sym e))

pub zip_step : {A B : Type 0} (R : A → B → Type 0) (xs : List A) (ys zs : List B) (i : ℕ) (x : A) (y : B) → i < length xs → x ≡ get_or xs i x → AllZip R (take i xs) ys → R x y → zs ≡ ys ++ y ∷ [] → AllZip R (take (i + 1) xs) zs
zip_step R xs ys zs i x y h e all one more =
    subst (λ w. AllZip R w zs) (sym (taken_more xs i x h e)) (subst (AllZip R (take i xs ++ x ∷ [])) (sym more) (zip_push R (take i xs) ys x y all one))

refused_at : {A B K : Type 0} (R : A → B → Type 0) (refusal_of : A → Option K) → ((a : A) (b : B) → R a b → refusal_of a ≡ None) → (xs : List A) (ys : List B) (i : ℕ) (x : A) (k : K) → i < length xs → x ≡ get_or xs i x → AllZip R (take i xs) ys → refusal_of x ≡ Some k → first_some (map refusal_of xs) ≡ Some k
refused_at R refusal_of none xs ys i x k h e all told = ap (λ w. first_some (map refusal_of w)) (cut_at xs i x h e) ∙ first_refused R refusal_of none (take i xs) ys x (drop (suc i) xs) k all told

-- ---- items

same_some : {A : Type 0} (x y : A) → Some x ≡ Some y → x ≡ y
same_some x y e = cc

-- the pairs of an item and what it is picked as
data PickedBy (columns : List Column) : Item → PickItem → Type 0 where
  by_plain : (name : List ℕ) (col : ℕ) → place_of columns name ≡ Some col → PickedBy columns (item.Plain name) (pick.Plain col)
  by_count : PickedBy columns item.CountAll pick.CountAll
  by_least : (name : List ℕ) (col : ℕ) → IsOfNumbers columns name col → PickedBy columns (item.Least name) (pick.Least col)
  by_greatest : (name : List ℕ) (col : ℕ) → IsOfNumbers columns name col → PickedBy columns (item.Greatest name) (pick.Greatest col)
  by_sum : (name : List ℕ) (col : ℕ) → IsOfNumbers columns name col → PickedBy columns (item.Sum name) (pick.Sum col)

picked_by : (columns : List Column) (i : Item) (p : PickItem) → IsPicked columns i p → PickedBy columns i p
picked_by columns (item.Plain name) (pick.Plain col) is = by_plain name col is
picked_by columns item.CountAll pick.CountAll is = by_count
picked_by columns (item.Least name) (pick.Least col) is = by_least name col is
picked_by columns (item.Greatest name) (pick.Greatest col) is = by_greatest name col is
picked_by columns (item.Sum name) (pick.Sum col) is = by_sum name col is
picked_by columns _ _ is = absurd is

same_number : (columns : List Column) (name : List ℕ) (a b : ℕ) → IsOfNumbers columns name a → IsOfNumbers columns name b → a ≡ b
same_number columns name a b is also = ap (λ (f : ℕ × ColType). f.0) (same_some (a, is.ty) (b, also.ty) (sym is.named ∙ also.named))

same_by : (columns : List Column) (i : Item) (p q : PickItem) → PickedBy columns i p → IsPicked columns i q → p ≡ q
same_by columns _ _ (pick.Plain b) (by_plain name a is) also = ap pick.Plain (same_some a b (sym is ∙ also))
same_by columns _ _ _ (by_plain name a is) also = absurd also
same_by columns _ _ pick.CountAll by_count also = refl
same_by columns _ _ _ by_count also = absurd also
same_by columns _ _ (pick.Least b) (by_least name a is) also = ap pick.Least (same_number columns name a b is also)
same_by columns _ _ _ (by_least name a is) also = absurd also
same_by columns _ _ (pick.Greatest b) (by_greatest name a is) also = ap pick.Greatest (same_number columns name a b is also)
same_by columns _ _ _ (by_greatest name a is) also = absurd also
same_by columns _ _ (pick.Sum b) (by_sum name a is) also = ap pick.Sum (same_number columns name a b is also)
same_by columns _ _ _ (by_sum name a is) also = absurd also

item_same : (columns : List Column) (i : Item) (p q : PickItem) → IsPicked columns i p → IsPicked columns i q → p ≡ q
item_same columns i p q is also = same_by columns i p q (picked_by columns i p is) also

number_none : (columns : List Column) (name : List ℕ) (col : ℕ) → IsOfNumbers columns name col → number_refusal columns name ≡ None
number_none columns name col is = let named : column_named columns name ≡ Some (col, is.ty) = is.named in let number : is_some (ends_of is.ty) ≡ true = is.number in rw (named, number) refl

none_by : (columns : List Column) (i : Item) (p : PickItem) → PickedBy columns i p → item_refusal columns i ≡ None
none_by columns _ _ (by_plain name col is) = rw is refl
none_by columns _ _ by_count = refl
none_by columns _ _ (by_least name col is) = number_none columns name col is
none_by columns _ _ (by_greatest name col is) = number_none columns name col is
none_by columns _ _ (by_sum name col is) = number_none columns name col is

item_none : (columns : List Column) (i : Item) (p : PickItem) → IsPicked columns i p → item_refusal columns i ≡ None
item_none columns i p is = none_by columns i p (picked_by columns i p is)

pub all_picked_refused : (columns : List Column) (items : List Item) (ps : List PickItem) (i : ℕ) (x : Item) (e : SelectFault) → i < length items → x ≡ get_or items i x → ArePicked columns (take i items) ps → Tells refusal (λ k. item_refusal columns x ≡ Some k) e
    → Tells refusal (λ k. first_some (map (item_refusal columns) items) ≡ Some k) e
all_picked_refused columns items ps i x (fault.Bad k) h same are told = refused_at (IsPicked columns) (item_refusal columns) (item_none columns) items ps i x k h same are told
all_picked_refused columns items ps i x fault.OutOfMemory h same are told = tt

-- ---- order items

place_same : (items : List Item) (by : OrderItem) (a b : OrderPlace) → IsPlaced items by a → IsPlaced items by b → a ≡ b
place_same items by a b is also =
    let p : a.place ≡ b.place = same_some a.place b.place (sym is.0 ∙ also.0) in
    let d : a.down ≡ b.down = is.1 ∙ sym also.1 in
    ap (λ x. record { place = x; down = a.down }) p ∙ ap (λ x. record { place = b.place; down = x }) d

-- whether an element passes, by the length of the front that doesn't
position_by : {A : Type 0} (p : A → Bool) (xs : List A) → nat_lt (prefix_len (λ x. not (p x)) xs) (length xs) ≡ list_any p xs
position_by p [] = refl
position_by p (x ∷ xs) = by (p x) (position_by p xs)
  where
    less : (m n : ℕ) (b : Bool) → nat_lt m n ≡ b → nat_lt (1 + m) (suc n) ≡ b
    less m n true e = grind (arith, nat_tests)
    less m n false e = grind (arith, nat_tests)

    by : (b : Bool) → nat_lt (prefix_len (λ y. not (p y)) xs) (length xs) ≡ list_any p xs → nat_lt (cond (not b) (1 + prefix_len (λ y. not (p y)) xs) 0) (length (x ∷ xs)) ≡ (b || list_any p xs)
    by true e = grind (arith, nat_tests)
    by false e = less (prefix_len (λ y. not (p y)) xs) (length xs) (list_any p xs) e

position_some : {A : Type 0} (p : A → Bool) (xs : List A) (i : ℕ) → position p xs ≡ Some i → (list_any p xs ≡ true) × (i < length xs)
position_some p xs i e =
    elim (chosen (nat_lt (prefix_len (λ x. not (p x)) xs) (length xs)) (Some (prefix_len (λ x. not (p x)) xs)) None (Some i) e) [
      | inl h ↦ (let same : prefix_len (λ x. not (p x)) xs ≡ i = cc in (sym (position_by p xs) ∙ h.0, subst (λ n. n < length xs) same (grind (arith, nat_tests))))
      | inr h ↦ absurd cc
    ]

position_none : {A : Type 0} (p : A → Bool) (xs : List A) → position p xs ≡ None → list_any p xs ≡ false
position_none p xs e =
    elim (chosen (nat_lt (prefix_len (λ x. not (p x)) xs) (length xs)) (Some (prefix_len (λ x. not (p x)) xs)) None None e) [
      | inl h ↦ absurd cc
      | inr h ↦ sym (position_by p xs) ∙ h.0
    ]

place_none : (items : List Item) (by : OrderItem) (a : OrderPlace) → IsPlaced items by a → order_refusal items by ≡ None
place_none items by a is = let there = (position_some (same_item by.item) items a.place is.0).0 in rw there refl

pub not_selected : (items : List Item) (by : OrderItem) → position (same_item by.item) items ≡ None → order_refusal items by ≡ Some kind.NotSelected
not_selected items by none = let gone = position_none (same_item by.item) items none in rw gone refl

pub all_placed_refused : (items : List Item) (order : List OrderItem) (ps : List OrderPlace) (i : ℕ) (x : OrderItem) → i < length order → x ≡ get_or order i x → ArePlaced items (take i order) ps → position (same_item x.item) items ≡ None
    → first_some (map (order_refusal items) order) ≡ Some kind.NotSelected
all_placed_refused items order ps i x h same are none = refused_at (IsPlaced items) (order_refusal items) (place_none items) order ps i x kind.NotSelected h same are (not_selected items x none)

-- ---- the whole

pub refused_items : (columns : List Column) (items : List Item) (order : List OrderItem) (e : SelectFault) → Tells refusal (λ k. first_some (map (item_refusal columns) items) ≡ Some k) e → Tells refusal (λ k. list_refusal columns (Some items) order ≡ Some k) e
refused_items columns items order (fault.Bad k) told = first_some-front (map (item_refusal columns) items) (map (order_refusal items) order) k told
refused_items columns items order fault.OutOfMemory told = tt

pub refused_order : (columns : List Column) (items : List Item) (ps : List PickItem) (order : List OrderItem) (e : SelectFault) → ArePicked columns items ps → Tells refusal (λ k. first_some (map (order_refusal items) order) ≡ Some k) e → Tells refusal (λ k. list_refusal columns (Some items) order ≡ Some k) e
refused_order columns items ps order (fault.Bad k) are told =
    first_some-append (map (item_refusal columns) items) (map (order_refusal items) order) (zip_none (IsPicked columns) (item_refusal columns) (item_none columns) items ps are) ∙ told
refused_order columns items ps order fault.OutOfMemory are told = tt

pick_same : (columns : List Column) (items : List Item) (order : List OrderItem) (limit : Option ℕ) (p q : Pick) → IsPick columns items order limit p → IsPick columns items order limit q → p ≡ q
pick_same columns items order limit p q is also =
    let a : p.items ≡ q.items = zip_same (IsPicked columns) (item_same columns) items p.items q.items is.items_picked also.items_picked in
    let b : p.order ≡ q.order = zip_same (IsPlaced items) (place_same items) order p.order q.order is.order_placed also.order_placed in
    let c : p.limit ≡ q.limit = is.same_limit ∙ sym also.same_limit in
    let d : p.grouped ≡ q.grouped = is.groups ∙ sym also.groups in
    ap (λ x. record { items = x; order = p.order; limit = p.limit; grouped = p.grouped }) a
    ∙ (ap (λ x. record { items = q.items; order = x; limit = p.limit; grouped = p.grouped }) b
    ∙ (ap (λ x. record { items = q.items; order = q.order; limit = x; grouped = p.grouped }) c
    ∙ ap (λ x. record { items = q.items; order = q.order; limit = q.limit; grouped = x }) d))

picks_same : (columns : List Column) (items : Option (List Item)) (order : List OrderItem) (limit : Option ℕ) (p q : Option Pick) → IsPickIn columns items order limit p → IsPickIn columns items order limit q → p ≡ q
picks_same columns None order limit None None is also = refl
picks_same columns None order limit None (Some q) is also = absurd also
picks_same columns None order limit (Some p) q is also = absurd is
picks_same columns (Some items) order limit None q is also = absurd is
picks_same columns (Some items) order limit (Some p) None is also = absurd also
picks_same columns (Some items) order limit (Some p) (Some q) is also = ap Some (pick_same columns items order limit p q is also)

pick_none : (columns : List Column) (items : List Item) (order : List OrderItem) (limit : Option ℕ) (p : Pick) → IsPick columns items order limit p → list_refusal columns (Some items) order ≡ None
pick_none columns items order limit p is =
    first_some-append (map (item_refusal columns) items) (map (order_refusal items) order) (zip_none (IsPicked columns) (item_refusal columns) (item_none columns) items p.items is.items_picked)
    ∙ zip_none (IsPlaced items) (order_refusal items) (place_none items) order p.order is.order_placed

picks_none : (columns : List Column) (items : Option (List Item)) (order : List OrderItem) (limit : Option ℕ) (p : Option Pick) → IsPickIn columns items order limit p → list_refusal columns items order ≡ None
picks_none columns None order limit p is = refl
picks_none columns (Some items) order limit None is = absurd is
picks_none columns (Some items) order limit (Some p) is = pick_none columns items order limit p is

pub answers_pick : (columns : List Column) (q : Query) (r : Result (Option Pick) SelectFault) (p : Option Pick) → IfOk r (IsPickOf columns q) → IfErr r (Tells refusal (λ k. select_refusal columns q ≡ Some k)) → IsPickOf columns q p → Answers refusal r (Ok p)
answers_pick columns q (Ok found) p is told also = ap Ok (picks_same columns q.select q.order q.limit p found also is)
answers_pick columns q (Err fault.OutOfMemory) p is told also = tt
answers_pick columns q (Err (fault.Bad k)) p is told also = absurd (let none = picks_none columns q.select q.order q.limit p also in let both : ◌≡◌ {A = Option SelectKind} None (Some k) = sym none ∙ told in cc)

pub answers_refusal : (columns : List Column) (q : Query) (r : Result (Option Pick) SelectFault) (k : SelectKind) → IfOk r (IsPickOf columns q) → IfErr r (Tells refusal (λ k. select_refusal columns q ≡ Some k)) → select_refusal columns q ≡ Some k → Answers {T = Option Pick} refusal r (Err k)
answers_refusal columns q (Ok found) k is told e = absurd (let none = picks_none columns q.select q.order q.limit found is in let both : ◌≡◌ {A = Option SelectKind} None (Some k) = sym none ∙ e in cc)
answers_refusal columns q (Err fault.OutOfMemory) k is told e = tt
answers_refusal columns q (Err (fault.Bad j)) k is told e = ap Err (same_some k j (sym e ∙ told))

-- ---- a pick by itself

places_within : (items : List Item) (order : List OrderItem) (ps : List OrderPlace) (n : ℕ) → n ≡ length items → ArePlaced items order ps → AllByRecursion (λ at. at.place < n) ps
places_within items [] [] n e are = tt
places_within items [] (p ∷ ps) n e are = absurd are
places_within items (o ∷ order) [] n e are = absurd are
places_within items (o ∷ order) (p ∷ ps) n e are = let fits = (position_some (same_item o.item) items p.place are.0.0).1 in (omega arith, places_within items order ps n e are.1)

same_length : (columns : List Column) (items : List Item) (ps : List PickItem) → ArePicked columns items ps → length ps ≡ length items
same_length columns [] [] are = refl
same_length columns [] (p ∷ ps) are = absurd are
same_length columns (i ∷ items) [] are = absurd are
same_length columns (i ∷ items) (p ∷ ps) are = let less = same_length columns items ps are.1 in omega arith

total_by : (columns : List Column) (i : Item) (p : PickItem) → PickedBy columns i p → is_aggregate i ≡ is_total p
total_by columns _ _ (by_plain name col is) = refl
total_by columns _ _ by_count = refl
total_by columns _ _ (by_least name col is) = refl
total_by columns _ _ (by_greatest name col is) = refl
total_by columns _ _ (by_sum name col is) = refl

same_totals : (columns : List Column) (items : List Item) (ps : List PickItem) → ArePicked columns items ps → list_any is_aggregate items ≡ list_any is_total ps
same_totals columns [] [] are = refl
same_totals columns [] (p ∷ ps) are = absurd are
same_totals columns (i ∷ items) [] are = absurd are
same_totals columns (i ∷ items) (p ∷ ps) are =
    let one = total_by columns i p (picked_by columns i p are.0) in
    let rest = same_totals columns items ps are.1 in
    rw (one, rest) refl

pick_sound : (columns : List Column) (items : Option (List Item)) (order : List OrderItem) (limit : Option ℕ) (p : Option Pick) → IsPickIn columns items order limit p → IfSome p IsSoundPick
pick_sound columns items order limit None is = tt
pick_sound columns None order limit (Some p) is = absurd is
pick_sound columns (Some items) order limit (Some p) is =
    record { within = places_within items order p.order (length p.items) (same_length columns items p.items is.items_picked) is.order_placed; groups = is.groups ∙ same_totals columns items p.items is.items_picked }

pub given_sound : (columns : List Column) (q : Query) (r : Result (Option Pick) SelectFault) → IfOk r (IsPickOf columns q) → IfOk r (λ picked. IfSome picked IsSoundPick)
given_sound columns q (Ok p) is = pick_sound columns q.select q.order q.limit p is
given_sound columns q (Err e) is = tt
