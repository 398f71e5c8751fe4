-- Totals with one record more: step by step in place, and over whole groups.
use Rattle.std.proofs.Common.{◌≡◌, ℕ, zero, suc, ◌+◌, ◌*◌, ◌<◌, ◌≤◌, Bool, true, false, cond, List, [], ◌∷◌, ◌++◌, length, length-append, map, take, drop, filter, Option, Some, None, ℤ, pos, ◌+ℤ◌, refl, sym, ap, subst, ◌∙◌, append-nil, arith}
use Rattle.std.specs.Prelude.{int_lt, slice_get, slice_set, IfSome, neg_ℤ, ◌≤ℤ◌, ◌^◌, fold, if◌then◌else◌}
use Rattle.std.specs.Int.{int_min, int_max}
use Rattle.std.specs.List.{AllByRecursion, filter_map}
use Rattle.std.specs.Ordering.{eq_by_cmp}
use Rattle.std.proofs.lemmas.Int.{ints}
use Rattle.fb_types.specs.declared.cells.Cell.{Cell}
use Rattle.fb_types.specs.Slots.{whole_in}
use Rattle.fb_types.specs.declared.cells.Cell.TheVariants.{Null, Whole, Word}
use Rattle.query_grammar.specs.declared.picking.PickItem.{PickItem}
use Rattle.query_grammar.specs.declared.picking.PickItem.TheVariants as pick
use Rattle.query_grammar.specs.Picks.{is_total}
use Rattle.select_group.specs.Answer.{group_row, has_key, key_of, together, total}
use Rattle.select_group.specs.Gathered.{CanBeAdded, IsSmall, number_is_small, totals, totals_if}
use Rattle.select_group.specs.Rows.{first_cell, number_cell, other_cells}
use Rattle.select_group.specs.Totals.{FitsItems, IsTotalWithin, IsWithin, both, counted, row_of_totals, grown, total_with, totals_with, numbers_of, first_totals}

-- ---- one step of a walk that writes in place

same_get : {A : Type 0} (x y : A) → Some x ≡ Some y → x ≡ y
same_get x y e = cc

pub with_step : (items : List PickItem) (ts ns : List (Option ℤ)) (i : ℕ) (x : PickItem) (t n v : Option ℤ) → slice_get items i ≡ Some x → slice_get ts i ≡ Some t → slice_get ns i ≡ Some n → v ≡ total_with x t n
    → take (suc i) (slice_set ts i v) ++ totals_with (drop (suc i) items) (drop (suc i) (slice_set ts i v)) (drop (suc i) ns) ≡ take i ts ++ totals_with (drop i items) (drop i ts) (drop i ns)
with_step [] ts ns i x t n v a b c e = absurd cc
with_step (y ∷ items) [] ns i x t n v a b c e = absurd cc
with_step (y ∷ items) (u ∷ ts) [] i x t n v a b c e = absurd cc
with_step (y ∷ items) (u ∷ ts) (m ∷ ns) zero x t n v a b c e =
    let p = same_get y x a in
    let q = same_get u t b in
    let r = same_get m n c in
    let f : v ≡ total_with y u m = rw (p, q, r) e in
    ap (λ w. w ∷ totals_with items ts ns) f
with_step (y ∷ items) (u ∷ ts) (m ∷ ns) (suc i) x t n v a b c e = ap (λ ws. u ∷ ws) (with_step items ts ns i x t n v a b c e)

pub first_step : (items : List PickItem) (ns : List (Option ℤ)) (i : ℕ) (x : PickItem) (n : Option ℤ) → slice_get items i ≡ Some x → slice_get ns i ≡ Some n
    → first_totals (drop i items) (drop i ns) ≡ total_with x None n ∷ first_totals (drop (suc i) items) (drop (suc i) ns)
first_step [] ns i x n a b = absurd cc
first_step (y ∷ items) [] i x n a b = absurd cc
first_step (y ∷ items) (m ∷ ns) zero x n a b =
    let p = same_get y x a in
    let q = same_get m n b in
    rw (p, q) refl
first_step (y ∷ items) (m ∷ ns) (suc i) x n a b = first_step items ns i x n a b

pub key_step : (items : List PickItem) (cells : List Cell) (i : ℕ) (x : PickItem) → slice_get items i ≡ Some x → i < length cells → is_total x ≡ true
    → take (suc i) (slice_set cells i Null) ++ key_of (drop (suc i) items) (drop (suc i) (slice_set cells i Null)) ≡ take i cells ++ key_of (drop i items) (drop i cells)
key_step [] cells i x a fits t = absurd cc
key_step (y ∷ items) [] i x a fits t = absurd (omega arith)
key_step (y ∷ items) (c ∷ cells) zero x a fits t = let e : is_total y ≡ true = ap is_total (same_get y x a) ∙ t in rw e refl
key_step (y ∷ items) (c ∷ cells) (suc i) x a fits t = ap (λ ws. c ∷ ws) (key_step items cells i x a (omega arith) t)

pub key_keeps : (items : List PickItem) (cells : List Cell) (i : ℕ) (x : PickItem) → slice_get items i ≡ Some x → i < length cells → is_total x ≡ false
    → take (suc i) cells ++ key_of (drop (suc i) items) (drop (suc i) cells) ≡ take i cells ++ key_of (drop i items) (drop i cells)
key_keeps [] cells i x a fits t = absurd cc
key_keeps (y ∷ items) [] i x a fits t = absurd (omega arith)
key_keeps (y ∷ items) (c ∷ cells) zero x a fits t = let e : is_total y ≡ false = ap is_total (same_get y x a) ∙ t in rw e refl
key_keeps (y ∷ items) (c ∷ cells) (suc i) x a fits t = ap (λ ws. c ∷ ws) (key_keeps items cells i x a (omega arith) t)

pub row_step : (items : List PickItem) (cells : List Cell) (ts : List (Option ℤ)) (i : ℕ) (x : PickItem) (t : Option ℤ) → slice_get items i ≡ Some x → slice_get ts i ≡ Some t → i < length cells → is_total x ≡ true
    → take (suc i) (slice_set cells i (number_cell t)) ++ row_of_totals (drop (suc i) items) (drop (suc i) (slice_set cells i (number_cell t))) (drop (suc i) ts) ≡ take i cells ++ row_of_totals (drop i items) (drop i cells) (drop i ts)
row_step [] cells ts i x t a b fits e = absurd cc
row_step (y ∷ items) [] ts i x t a b fits e = absurd (omega arith)
row_step (y ∷ items) (c ∷ cells) [] i x t a b fits e = absurd cc
row_step (y ∷ items) (c ∷ cells) (u ∷ ts) zero x t a b fits e =
    let f : is_total y ≡ true = ap is_total (same_get y x a) ∙ e in
    let q = same_get u t b in
    rw (f, q) refl
row_step (y ∷ items) (c ∷ cells) (u ∷ ts) (suc i) x t a b fits e = ap (λ ws. c ∷ ws) (row_step items cells ts i x t a b (omega arith) e)

pub row_keeps : (items : List PickItem) (cells : List Cell) (ts : List (Option ℤ)) (i : ℕ) (x : PickItem) → slice_get items i ≡ Some x → i < length ts → i < length cells → is_total x ≡ false
    → take (suc i) cells ++ row_of_totals (drop (suc i) items) (drop (suc i) cells) (drop (suc i) ts) ≡ take i cells ++ row_of_totals (drop i items) (drop i cells) (drop i ts)
row_keeps [] cells ts i x a less fits e = absurd cc
row_keeps (y ∷ items) [] ts i x a less fits e = absurd (omega arith)
row_keeps (y ∷ items) (c ∷ cells) [] i x a less fits e = absurd (omega arith)
row_keeps (y ∷ items) (c ∷ cells) (u ∷ ts) zero x a less fits e = let f : is_total y ≡ false = ap is_total (same_get y x a) ∙ e in rw f refl
row_keeps (y ∷ items) (c ∷ cells) (u ∷ ts) (suc i) x a less fits e = ap (λ ws. c ∷ ws) (row_keeps items cells ts i x a (omega arith) (omega arith) e)

pub numbers_step : (items : List PickItem) (cells : List Cell) (i : ℕ) (x : PickItem) (c : Cell) → slice_get items i ≡ Some x → slice_get cells i ≡ Some c
    → numbers_of (drop i items) (drop i cells) ≡ (if is_total x then whole_in c else None) ∷ numbers_of (drop (suc i) items) (drop (suc i) cells)
numbers_step [] cells i x c a b = absurd cc
numbers_step (y ∷ items) [] i x c a b = absurd cc
numbers_step (y ∷ items) (d ∷ cells) zero x c a b =
    let p = same_get y x a in
    let q = same_get d c b in
    rw (p, q) refl
numbers_step (y ∷ items) (d ∷ cells) (suc i) x c a b = numbers_step items cells i x c a b

-- ---- one record more in a group

fold_push : (f : ℤ → ℤ → ℤ) (a : ℤ) (xs : List ℤ) (y : ℤ) → fold f a (xs ++ y ∷ []) ≡ f (fold f a xs) y
fold_push f a [] y = refl
fold_push f a (x ∷ xs) y = fold_push f (f a x) xs y

together_push : (f : ℤ → ℤ → ℤ) (ns : List ℤ) (n : ℤ) → together f (ns ++ n ∷ []) ≡ both f (together f ns) (Some n)
together_push f [] n = refl
together_push f (m ∷ ns) n = ap Some (fold_push f m ns n)

both_none : (f : ℤ → ℤ → ℤ) (t : Option ℤ) → both f t None ≡ t
both_none f None = refl
both_none f (Some n) = refl

abbrev pushed : Option ℤ → List ℤ
pushed None = []
pushed (Some n) = n ∷ []

numbers_push : (cells : List Cell) (c : Cell) → filter_map whole_in (cells ++ c ∷ []) ≡ filter_map whole_in cells ++ pushed (whole_in c)
numbers_push [] Null = refl
numbers_push [] (Whole n) = refl
numbers_push [] (Word w) = refl
numbers_push (Null ∷ cells) c = numbers_push cells c
numbers_push (Whole n ∷ cells) c = ap (λ ns. n ∷ ns) (numbers_push cells c)
numbers_push (Word w ∷ cells) c = numbers_push cells c

folds_push : (f : ℤ → ℤ → ℤ) (cells : List Cell) (c : Cell) → together f (filter_map whole_in (cells ++ c ∷ [])) ≡ both f (together f (filter_map whole_in cells)) (whole_in c)
folds_push f cells c = ap (together f) (numbers_push cells c) ∙ by (whole_in c)
  where
    by : (n : Option ℤ) → together f (filter_map whole_in cells ++ pushed n) ≡ both f (together f (filter_map whole_in cells)) n
    by None = ap (together f) (append-nil (filter_map whole_in cells)) ∙ sym (both_none f (together f (filter_map whole_in cells)))
    by (Some n) = together_push f (filter_map whole_in cells) n

count_push : (cells : List Cell) (c : Cell) → Some (pos (length (cells ++ c ∷ []))) ≡ counted (Some (pos (length cells)))
count_push cells c =
    let size : length (cells ++ c ∷ []) ≡ length cells + 1 = length-append cells (c ∷ []) in
    ap (λ n. Some (pos n)) size

total_push : (i : PickItem) (cells : List Cell) (c : Cell) → total i (cells ++ c ∷ []) ≡ total_with i (total i cells) (if is_total i then whole_in c else None)
total_push (pick.Plain col) cells c = refl
total_push pick.CountAll cells c = count_push cells c
total_push (pick.Least col) cells c = folds_push int_min cells c
total_push (pick.Greatest col) cells c = folds_push int_max cells c
total_push (pick.Sum col) cells c = folds_push (λ a b. a +ℤ b) cells c

map_push : {X Y : Type 0} (f : X → Y) (xs : List X) (y : X) → map f (xs ++ y ∷ []) ≡ map f xs ++ f y ∷ []
map_push f [] y = refl
map_push f (x ∷ xs) y = ap (λ ys. f x ∷ ys) (map_push f xs y)

pub totals_push : (items : List PickItem) (group : List (List Cell)) (row : List Cell) → length row ≡ length items → totals items (group ++ row ∷ []) ≡ totals_with items (totals items group) (numbers_of items row)
totals_push [] group row e = refl
totals_push (i ∷ items) group [] e = absurd (omega arith)
totals_push (i ∷ items) group (c ∷ row) e =
    let firsts = map_push first_cell group (c ∷ row) in
    let others = map_push other_cells group (c ∷ row) in
    let one = ap (total i) firsts ∙ total_push i (map first_cell group) c in
    let rest = ap (totals items) others ∙ totals_push items (map other_cells group) row (omega arith) in
    rw (one, rest) refl

total_one : (i : PickItem) (c : Cell) → total i (c ∷ []) ≡ total_with i None (if is_total i then whole_in c else None)
total_one (pick.Plain col) c = refl
total_one pick.CountAll c = refl
total_one (pick.Least col) Null = refl
total_one (pick.Least col) (Whole n) = refl
total_one (pick.Least col) (Word w) = refl
total_one (pick.Greatest col) Null = refl
total_one (pick.Greatest col) (Whole n) = refl
total_one (pick.Greatest col) (Word w) = refl
total_one (pick.Sum col) Null = refl
total_one (pick.Sum col) (Whole n) = refl
total_one (pick.Sum col) (Word w) = refl

pub totals_one : (items : List PickItem) (row : List Cell) → length row ≡ length items → totals items (row ∷ []) ≡ first_totals items (numbers_of items row)
totals_one [] row e = refl
totals_one (i ∷ items) [] e = absurd (omega arith)
totals_one (i ∷ items) (c ∷ row) e = rw (total_one i c, totals_one items row (omega arith)) refl

pub totals_if_push : (items : List PickItem) (group : List (List Cell)) (row : List Cell) → length row ≡ length items → totals_if items (group ++ row ∷ []) ≡ Some (grown items (totals_if items group) (numbers_of items row))
totals_if_push items [] row e = ap Some (totals_one items row e)
totals_if_push items (r ∷ group) row e = ap Some (totals_push items (r ∷ group) row e)

filter_push : {X : Type 0} (p : X → Bool) (xs : List X) (y : X) → filter p (xs ++ y ∷ []) ≡ filter p xs ++ cond (p y) (y ∷ []) []
filter_push p [] y = refl
filter_push p (x ∷ xs) y = by (p x) (filter_push p xs y)
  where
    by : (b : Bool) → filter p (xs ++ y ∷ []) ≡ filter p xs ++ cond (p y) (y ∷ []) [] → cond b (x ∷ filter p (xs ++ y ∷ [])) (filter p (xs ++ y ∷ [])) ≡ cond b (x ∷ filter p xs) (filter p xs) ++ cond (p y) (y ∷ []) []
    by true e = ap (λ ys. x ∷ ys) e
    by false e = e

pub group_push : (items : List PickItem) (rows : List (List Cell)) (row key : List Cell) → length row ≡ length items
    → totals_if items (filter (has_key items key) (rows ++ row ∷ [])) ≡ cond (has_key items key row) (Some (grown items (totals_if items (filter (has_key items key) rows)) (numbers_of items row))) (totals_if items (filter (has_key items key) rows))
group_push items rows row key e = ap (totals_if items) (filter_push (has_key items key) rows row) ∙ by (has_key items key row)
  where
    by : (b : Bool) → totals_if items (filter (has_key items key) rows ++ cond b (row ∷ []) []) ≡ cond b (Some (grown items (totals_if items (filter (has_key items key) rows)) (numbers_of items row))) (totals_if items (filter (has_key items key) rows))
    by true = totals_if_push items (filter (has_key items key) rows) row e
    by false = ap (totals_if items) (append-nil (filter (has_key items key) rows))

-- ---- sizes

pub length-key_of : (items : List PickItem) (cells : List Cell) → length cells ≡ length items → length (key_of items cells) ≡ length items
length-key_of [] cells e = refl
length-key_of (i ∷ items) [] e = absurd (omega arith)
length-key_of (i ∷ items) (c ∷ cells) e = let less = length-key_of items cells (omega arith) in omega arith

pub length-numbers_of : (items : List PickItem) (cells : List Cell) → length cells ≡ length items → length (numbers_of items cells) ≡ length items
length-numbers_of [] cells e = refl
length-numbers_of (i ∷ items) [] e = absurd (omega arith)
length-numbers_of (i ∷ items) (c ∷ cells) e = let less = length-numbers_of items cells (omega arith) in omega arith

abbrev pub IsSmallIf : Option ℤ → Type 0
IsSmallIf n = IfSome n IsSmall

small_of : (i : PickItem) (c : Cell) → number_is_small c → IsSmallIf (if is_total i then whole_in c else None)
small_of (pick.Plain col) c small = tt
small_of pick.CountAll c small = small
small_of (pick.Least col) c small = small
small_of (pick.Greatest col) c small = small
small_of (pick.Sum col) c small = small

pub numbers_small : (items : List PickItem) (cells : List Cell) → AllByRecursion number_is_small cells → AllByRecursion IsSmallIf (numbers_of items cells)
numbers_small [] cells small = tt
numbers_small (i ∷ items) [] small = tt
numbers_small (i ∷ items) (c ∷ cells) small = (small_of i c small.0, numbers_small items cells small.1)

within_more : (n m : ℕ) (z : ℤ) → n ≤ m → IsWithin n z → IsWithin m z
within_more n m z less is = (omega (arith, ints), omega (arith, ints))

total_more : (n m : ℕ) (t : Option ℤ) → n ≤ m → IsTotalWithin n t → IsTotalWithin m t
total_more n m None less is = tt
total_more n m (Some z) less is = within_more n m z less is

pub totals_more : (n m : ℕ) (ts : List (Option ℤ)) → n ≤ m → AllByRecursion (IsTotalWithin n) ts → AllByRecursion (IsTotalWithin m) ts
totals_more n m [] less all = tt
totals_more n m (t ∷ ts) less all = (total_more n m t less all.0, totals_more n m ts less all.1)

either : (f : ℤ → ℤ → ℤ) (P : ℤ → Type 0) → ((a b : ℤ) → P a → P b → P (f a b)) → (t n : Option ℤ) → IfSome t P → IfSome n P → IfSome (both f t n) P
either f P step None n a b = b
either f P step (Some t) None a b = a
either f P step (Some t) (Some n) a b = step t n a b

min_within : (n : ℕ) (a b : ℤ) → IsWithin n a → IsWithin n b → IsWithin n (int_min a b)
min_within n a b p q = by (int_lt b a)
  where
    by : (less : Bool) → IsWithin n (cond less b a)
    by true = q
    by false = p

max_within : (n : ℕ) (a b : ℤ) → IsWithin n a → IsWithin n b → IsWithin n (int_max a b)
max_within n a b p q = by (int_lt b a)
  where
    by : (less : Bool) → IsWithin n (cond less a b)
    by true = p
    by false = q

small_within : (n : ℕ) (z : ℤ) → IsSmall z → IsWithin (n + 1) z
small_within n z small = (omega (arith, ints), omega (arith, ints))

small_if_within : (n : ℕ) (z : Option ℤ) → IsSmallIf z → IsTotalWithin (n + 1) z
small_if_within n None small = tt
small_if_within n (Some z) small = small_within n z small

sum_within : (n : ℕ) (t z : Option ℤ) → IsTotalWithin n t → IsSmallIf z → IsTotalWithin (n + 1) (both (λ a b. a +ℤ b) t z)
sum_within n None z is small = small_if_within n z small
sum_within n (Some t) None is small = within_more n (n + 1) t (omega arith) is
sum_within n (Some t) (Some z) is small = (omega (arith, ints), omega (arith, ints))

count_within : (n : ℕ) (t : Option ℤ) → IsTotalWithin n t → IsTotalWithin (n + 1) (counted t)
count_within n None is = (omega (arith, ints), omega (arith, ints))
count_within n (Some t) is = (omega (arith, ints), omega (arith, ints))

total_with_within : (n : ℕ) (i : PickItem) (t z : Option ℤ) → IsTotalWithin n t → IsSmallIf z → IsTotalWithin (n + 1) (total_with i t z)
total_with_within n (pick.Plain col) t z is small = tt
total_with_within n pick.CountAll t z is small = count_within n t is
total_with_within n (pick.Least col) t z is small = either int_min (IsWithin (n + 1)) (min_within (n + 1)) t z (total_more n (n + 1) t (omega arith) is) (small_if_within n z small)
total_with_within n (pick.Greatest col) t z is small = either int_max (IsWithin (n + 1)) (max_within (n + 1)) t z (total_more n (n + 1) t (omega arith) is) (small_if_within n z small)
total_with_within n (pick.Sum col) t z is small = sum_within n t z is small

totals_with_within : (n : ℕ) (items : List PickItem) (ts zs : List (Option ℤ)) → AllByRecursion (IsTotalWithin n) ts → AllByRecursion IsSmallIf zs → AllByRecursion (IsTotalWithin (n + 1)) (totals_with items ts zs)
totals_with_within n [] ts zs is small = tt
totals_with_within n (i ∷ items) [] zs is small = tt
totals_with_within n (i ∷ items) (t ∷ ts) [] is small = tt
totals_with_within n (i ∷ items) (t ∷ ts) (z ∷ zs) is small = (total_with_within n i t z is.0 small.0, totals_with_within n items ts zs is.1 small.1)

first_within : (n : ℕ) (items : List PickItem) (zs : List (Option ℤ)) → AllByRecursion IsSmallIf zs → AllByRecursion (IsTotalWithin (n + 1)) (first_totals items zs)
first_within n [] zs small = tt
first_within n (i ∷ items) [] small = tt
first_within n (i ∷ items) (z ∷ zs) small = (total_with_within n i None z tt small.0, first_within n items zs small.1)

length-totals_with : (items : List PickItem) (ts zs : List (Option ℤ)) → length ts ≡ length items → length zs ≡ length items → length (totals_with items ts zs) ≡ length items
length-totals_with [] ts zs a b = refl
length-totals_with (i ∷ items) [] zs a b = absurd (omega arith)
length-totals_with (i ∷ items) (t ∷ ts) [] a b = absurd (omega arith)
length-totals_with (i ∷ items) (t ∷ ts) (z ∷ zs) a b = let less = length-totals_with items ts zs (omega arith) (omega arith) in omega arith

length-first_totals : (items : List PickItem) (zs : List (Option ℤ)) → length zs ≡ length items → length (first_totals items zs) ≡ length items
length-first_totals [] zs e = refl
length-first_totals (i ∷ items) [] e = absurd (omega arith)
length-first_totals (i ∷ items) (z ∷ zs) e = let less = length-first_totals items zs (omega arith) in omega arith

-- a group that grew still fits
pub grown_fits : (n : ℕ) (items : List PickItem) (cells key : List Cell) (old : Option (List (Option ℤ))) → CanBeAdded items cells → length key ≡ length items → IfSome old (FitsItems items n key) → FitsItems items (n + 1) key (grown items old (numbers_of items cells))
grown_fits n items cells key None can long fits =
    record { cells = long; one_each = length-first_totals items (numbers_of items cells) (length-numbers_of items cells can.one_each); within = first_within n items (numbers_of items cells) (numbers_small items cells can.small) }
grown_fits n items cells key (Some ts) can long fits =
    record { cells = long; one_each = length-totals_with items ts (numbers_of items cells) fits.one_each (length-numbers_of items cells can.one_each); within = totals_with_within n items ts (numbers_of items cells) fits.within (numbers_small items cells can.small) }

pub fits_more : (n m : ℕ) (items : List PickItem) (key : List Cell) (o : Option (List (Option ℤ))) → n ≤ m → IfSome o (FitsItems items n key) → IfSome o (FitsItems items m key)
fits_more n m items key None less fits = tt
fits_more n m items key (Some ts) less fits = record { cells = fits.cells; one_each = fits.one_each; within = totals_more n m ts less fits.within }
