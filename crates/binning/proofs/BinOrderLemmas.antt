-- The ranges of bins are disjoint and rise.
use Rattle.std.proofs.Common.{◌≡◌, true, List, [], ◌∷◌, map, Option, ℤ, ◌≤ℤ◌, ◌<ℤ◌, int_lt, refl, sym, ◌∙◌, arith}
use Rattle.std.specs.List.{AllByRecursion, fold, filter}
use Rattle.std.specs.Int.{int_min, int_max}
use Rattle.std.specs.Ordering.{int_eq}
use Rattle.std.proofs.lemmas.Int.{ints}
use Rattle.binning.specs.Keys.{key, rising, Rises, IsKeying}
use Rattle.binning.specs.Bins.{present, values_with, least_of, greatest_of, bin_of, bins_of}
use Rattle.binning.specs.Gathered.{is_in}
use Rattle.binning.specs.Order.{BinsRise, HasEndsOf}
use Rattle.binning.specs.declared.rules.Keying.{Keying}
use Rattle.binning.proofs.TestLemmas.{either}
use Rattle.binning.proofs.KeyLemmas.{eq_from, eq_self, or_left, or_right, lt_of, le_of, rising-Rises, is_in-rising}
use Rattle.binning.proofs.GatherLemmas.{values_some}
use Rattle.binning.proofs.KeyOrderLemmas.{key_up}

-- ---- the least and the greatest of some numbers

-- what is true of all numbers is true of the least and the greatest
fold_min : (P : ℤ → Type 0) (v : ℤ) (vs : List ℤ) → P v → AllByRecursion P vs → P (fold int_min v vs) × (fold int_min v vs ≤ℤ v)
fold_min P v [] h all = (h, omega (arith, ints))
fold_min P v (w ∷ vs) h all =
    either (int_lt w v)
    (λ t. let r = fold_min P w vs all.0 all.1 in let l = lt_of w v t in rw t (r.0, omega (arith, ints, r.1)))
    (λ f. rw f (fold_min P v vs h all.1))

fold_max : (P : ℤ → Type 0) (v : ℤ) (vs : List ℤ) → P v → AllByRecursion P vs → P (fold int_max v vs) × (v ≤ℤ fold int_max v vs)
fold_max P v [] h all = (h, omega (arith, ints))
fold_max P v (w ∷ vs) h all =
    either (int_lt w v)
    (λ t. rw t (fold_max P v vs h all.1))
    (λ f. let r = fold_max P w vs all.0 all.1 in let l = le_of w v f in rw f (r.0, omega (arith, ints, r.1)))

-- The ends of a range that has numbers, of which something is true.
record HasEnds (P : ℤ → Type 0) (least greatest : ℤ) : Type 0 where
  first : P least
  last : P greatest
  order : least ≤ℤ greatest

ends_of : (P : ℤ → Type 0) (vs : List ℤ) → (vs ≡ [] → ⊥) → AllByRecursion P vs → HasEnds P (least_of vs) (greatest_of vs)
ends_of P [] some all = absurd (some refl)
ends_of P (v ∷ vs) some all =
    let a = fold_min P v vs all.0 all.1 in
    let b = fold_max P v vs all.0 all.1 in
    record { first = a.0; last = b.0; order = omega (arith, ints, a.1, b.1) }

-- ---- the values with a key

all_with : (keys : Keying) (k : ℤ) (vs : List ℤ) → AllByRecursion (λ v. key keys v ≡ k) (filter (λ v. int_eq (key keys v) k) vs)
all_with keys k [] = tt
all_with keys k (v ∷ vs) =
    either (int_eq (key keys v) k)
    (λ t. rw t (eq_from (key keys v) k t, all_with keys k vs))
    (λ f. rw f (all_with keys k vs))

-- the ends of a bin have its key
abbrev HasRange : Keying → List (Option ℤ) → ℤ → Type 0
HasRange keys column k = HasEnds (λ v. key keys v ≡ k) (least_of (values_with keys k column)) (greatest_of (values_with keys k column))

range_with : (keys : Keying) (column : List (Option ℤ)) (k : ℤ) → is_in k (map (key keys) (present column)) ≡ true → HasRange keys column k
range_with keys column k h =
    ends_of (λ v. key keys v ≡ k) (values_with keys k column) (values_some keys k (present column) h) (all_with keys k (present column))

in_later : (q k : ℤ) (ks : List ℤ) → is_in q ks ≡ true → is_in q (k ∷ ks) ≡ true
in_later q k ks h = either (int_eq q k) (λ t. or_left (int_eq q k) (is_in q ks) t) (λ f. or_right (int_eq q k) (is_in q ks) f ∙ h)

-- ---- bins of keys that rise

-- of two values the one with the lesser key is the lesser
key_down : (keys : Keying) (v w : ℤ) → IsKeying keys → key keys v <ℤ key keys w → v <ℤ w
key_down keys v w is h =
    either (int_lt v w)
    (λ t. lt_of v w t)
    (λ f. let u = key_up keys w v is (le_of v w f) in absurd (omega (arith, ints)))

next_above : (keys : Keying) (column : List (Option ℤ)) (k l : ℤ) → IsKeying keys → HasRange keys column k → HasRange keys column l → k <ℤ l
    → greatest_of (values_with keys k column) <ℤ least_of (values_with keys l column)
next_above keys column k l is r s h =
    let a = r.last in
    let b = s.first in
    key_down keys (greatest_of (values_with keys k column)) (least_of (values_with keys l column)) is (omega (arith, ints, a, b))

all_rise : (keys : Keying) (column : List (Option ℤ)) (ks : List ℤ) → IsKeying keys → Rises ks → AllByRecursion (λ k. HasRange keys column k) ks
    → BinsRise (map (bin_of keys column) ks)
all_rise keys column [] is r all = tt
all_rise keys column (k ∷ []) is r all = all.0.order
all_rise keys column (k ∷ l ∷ ks) is r all =
    (all.0.order, next_above keys column k l is all.0 all.1.0 r.0, all_rise keys column (l ∷ ks) is r.1 all.1)

all_ranges : (keys : Keying) (column : List (Option ℤ)) (ks : List ℤ)
    → ((k : ℤ) → is_in k ks ≡ true → is_in k (map (key keys) (present column)) ≡ true)
    → AllByRecursion (λ k. HasRange keys column k) ks
all_ranges keys column [] among = tt
all_ranges keys column (k ∷ ks) among =
    let first = among k (or_left (int_eq k k) (is_in k ks) (eq_self k)) in
    (range_with keys column k first, all_ranges keys column ks (λ q h. among q (in_later q k ks h)))

pub bins_rise : (keys : Keying) (column : List (Option ℤ)) → IsKeying keys → BinsRise (bins_of keys column)
bins_rise keys column is =
    let found = map (key keys) (present column) in
    all_rise keys column (rising found) is (rising-Rises found) (all_ranges keys column (rising found) (λ k h. sym (is_in-rising k found) ∙ h))

-- ---- the ends of a bin are values of the column with its key

all_among : (xs ys : List ℤ) → ((v : ℤ) → is_in v xs ≡ true → is_in v ys ≡ true) → AllByRecursion (λ v. is_in v ys ≡ true) xs
all_among [] ys among = tt
all_among (x ∷ xs) ys among =
    (among x (or_left (int_eq x x) (is_in x xs) (eq_self x)), all_among xs ys (λ v h. among v (in_later v x xs h)))

pub ends_there : (keys : Keying) (column : List (Option ℤ)) (k : ℤ) → is_in k (map (key keys) (present column)) ≡ true → HasEndsOf keys column k
ends_there keys column k h =
    let vs = values_with keys k column in
    let ends = ends_of (λ v. is_in v vs ≡ true) vs (values_some keys k (present column) h) (all_among vs vs (λ v i. i)) in
    (ends.first, ends.last)
