-- Spans that stand apart, told by the first that reaches up to a number; how spans are joined.
use Rattle.std.proofs.Common.{◌≡◌, ℕ, zero, suc, ◌+◌, ◌<◌, ◌≤◌, Bool, true, false, ◌&&◌, ◌||◌, List, [], ◌∷◌, ◌++◌, length, get_or, ℤ, pos, ◌+ℤ◌, ◌≤ℤ◌, ◌<ℤ◌, int_lt, cond, if◌then◌else◌, take, drop, drop-cons, add-one, refl, sym, ap, ◌∙◌, arith}
use Rattle.std.proofs.lemmas.Grind.{common_steps}
use Rattle.std.specs.List.{list_any, AllByRecursion, filter}
use Rattle.std.proofs.lemmas.List.Folds.{list_any-append}
use lib.Signed.{le_z}
use Rattle.std.specs.List.{All}
use Rattle.std.specs.List.Sorted.{IsPartitionedBy, IsPartitionPoint, IsPermutation, IsSortedByKey}
use Rattle.std.specs.Ordering.{int_cmp, is_lt}
use Rattle.std.proofs.lemmas.List.Elements.{All-nil, All-cons, All-head, All-tail}
use Rattle.std.proofs.lemmas.List.Sorted.{All-permutation}
use Rattle.std.proofs.lemmas.Int.{ints}
use Rattle.binning.specs.declared.span_lists.Span.{Span}
use Rattle.binning.specs.Spans.{int_le, in_span, has, AreApart, IsFirstReaching, IsSpanInRange, HasNumber, LeastsRise, has_number}
use Rattle.binning.specs.Joined.{Joined}
use Rattle.binning.specs.Against.{covers, meets, against}
use Rattle.binning.specs.declared.against_bins.Three.TheVariants.{Yes, No, Unknown}
use Rattle.binning.proofs.TestLemmas.{either, not_both, int_le-true, int_le-false, le_from, or_false}

pub has_number_of : (s : Span) (spans : List Span) → AreApart (s ∷ spans) → s.least ≤ℤ s.greatest
has_number_of s [] apart = apart
has_number_of s (t ∷ spans) apart = apart.0

pub apart_after : (s : Span) (spans : List Span) → AreApart (s ∷ spans) → AreApart spans
apart_after s [] apart = tt
apart_after s (t ∷ spans) apart = apart.2

-- What a span says, for those that reach up to v: where a later one passes the test, an earlier one does.
pub record Tells (P : Span → Bool) (v : ℤ) : Type 0 where
  pub below : (s : Span) → s.greatest <ℤ v → P s ≡ false
  pub later : (s t : Span) → s.least ≤ℤ s.greatest → v ≤ℤ s.greatest → s.greatest <ℤ t.least → P t ≡ true → P s ≡ true

later_fails : (P : Span → Bool) (v : ℤ) → Tells P v → (s t : Span) → s.least ≤ℤ s.greatest → v ≤ℤ s.greatest → s.greatest <ℤ t.least → P s ≡ false → P t ≡ false
later_fails P v tells s t some up gap bad =
    either (P t) (λ yes. not_both (tells.later s t some up gap yes) bad) (λ e. e)

-- where the first fails, and the others stand above it, all fail
all_fail : (P : Span → Bool) (v : ℤ) → Tells P v → (s : Span) → s.least ≤ℤ s.greatest → v ≤ℤ s.greatest → P s ≡ false → (t : Span) (spans : List Span) → s.greatest <ℤ t.least → AreApart (t ∷ spans) → list_any P (t ∷ spans) ≡ false
all_fail P v tells s some up bad t [] gap apart =
    or_false (P t) false (later_fails P v tells s t some up gap bad) refl
all_fail P v tells s some up bad t (u ∷ spans) gap apart =
    let next : s.greatest <ℤ u.least = omega (arith, ints, apart.0, apart.1) in
    or_false (P t) (list_any P (u ∷ spans)) (later_fails P v tells s t some up gap bad) (all_fail P v tells s some up bad u spans next apart.2)

first_of_list : (P : Span → Bool) (v : ℤ) → Tells P v → (s : Span) (spans : List Span) → AreApart (s ∷ spans) → v ≤ℤ s.greatest → P s ≡ false → list_any P spans ≡ false
first_of_list P v tells s [] apart up bad = refl
first_of_list P v tells s (t ∷ spans) apart up bad =
    let gap : s.greatest <ℤ t.least = omega (arith, ints, apart.1) in
    all_fail P v tells s apart.0 up bad t spans gap apart.2

or_same : (a b : Bool) → (a ≡ false → b ≡ false) → (a || b) ≡ a
or_same true b h = refl
or_same false b h = h refl

reaching_rest : (s : Span) (spans : List Span) (v : ℤ) (n : ℕ) → IsFirstReaching (s ∷ spans) v (suc n) → IsFirstReaching spans v n
reaching_rest s spans v n r = record {
  within = omega (arith, r.within);
  before = λ k d h. r.before (suc k) d (omega arith);
  there = λ d h. r.there d (omega arith);
}

-- the first span that reaches up to v tells
pub first_tells : (P : Span → Bool) (v : ℤ) → Tells P v → (spans : List Span) (n : ℕ) (d : Span) → AreApart spans → IsFirstReaching spans v n → n < length spans → list_any P spans ≡ P (get_or spans n d)
first_tells P v tells [] n d apart r h = absurd (omega arith)
first_tells P v tells (s ∷ spans) zero d apart r h =
    or_same (P s) (list_any P spans) (first_of_list P v tells s spans apart (r.there d h))
first_tells P v tells (s ∷ spans) (suc n) d apart r h =
    let bad : P s ≡ false = tells.below s (r.before 0 d (omega arith)) in
    let rest = first_tells P v tells spans n d (apart_after s spans apart) (reaching_rest s spans v n r) (omega arith) in
    rw bad rest

-- where none reaches up to v
pub none_tells : (P : Span → Bool) (v : ℤ) → Tells P v → (spans : List Span) (n : ℕ) → IsFirstReaching spans v n → length spans ≤ n → list_any P spans ≡ false
none_tells P v tells [] n r h = refl
none_tells P v tells (s ∷ spans) zero r h = absurd (omega arith)
none_tells P v tells (s ∷ spans) (suc n) r h =
    or_false (P s) (list_any P spans) (tells.below s (r.before 0 s (omega arith))) (none_tells P v tells spans n (reaching_rest s spans v n r) (omega arith))

-- ---- the tests

pub in_span-tells : (v : ℤ) → Tells (in_span v) v
in_span-tells v = record {
  below = λ s h. grind (arith, ints);
  later = λ s t some up gap yes. grind (arith, ints);
}

pub covers-tells : (least greatest : ℤ) → least ≤ℤ greatest → Tells (covers least greatest) least
covers-tells least greatest order = record {
  below = λ s h. grind (arith, ints);
  later = λ s t some up gap yes. grind (arith, ints);
}

pub meets-tells : (least greatest : ℤ) → least ≤ℤ greatest → Tells (meets least greatest) least
meets-tells least greatest order = record {
  below = λ s h. grind (arith, ints);
  later = λ s t some up gap yes. grind (arith, ints);
}

greatests_rise : (spans : List Span) (i j : ℕ) (d : Span) → AreApart spans → i ≤ j → j < length spans → (get_or spans i d).greatest ≤ℤ (get_or spans j d).greatest
greatests_rise [] i j d apart order within = absurd (omega arith)
greatests_rise (s ∷ spans) zero zero d apart order within = omega (arith, ints)
greatests_rise (s ∷ []) zero (suc j) d apart order within = absurd (omega arith)
greatests_rise (s ∷ t ∷ spans) zero (suc j) d apart order within =
    let rest = greatests_rise (t ∷ spans) zero j d apart.2 (omega arith) (omega arith) in
    omega (arith, ints, rest, apart.1, has_number_of t spans apart.2)
greatests_rise (s ∷ spans) (suc i) zero d apart order within = absurd (omega arith)
greatests_rise (s ∷ spans) (suc i) (suc j) d apart order within = greatests_rise spans i j d (apart_after s spans apart) (omega arith) (omega arith)

-- spans end in rising order, so that those which end below v stand before the others
pub parted_by : (spans : List Span) (v : ℤ) → AreApart spans → IsPartitionedBy (λ s. int_lt s.greatest v) spans
parted_by spans v apart i j d order within below =
    let up = greatests_rise spans i j d apart order within in
    grind (arith, ints)

pub first_reaching_from : (spans : List Span) (v : ℤ) (n : ℕ) → n ≤ length spans → IsPartitionPoint (λ s. int_lt s.greatest v ≡ true) (λ s. int_lt s.greatest v ≡ false) spans n → IsFirstReaching spans v n
first_reaching_from spans v n within point = record {
  within = within;
  before = λ k d h. let t = point.0 k d (omega arith) h in grind (arith, ints);
  there = λ d h. let t = point.1 n d (omega arith) h in grind (arith, ints);
}

-- ---- joining

pub apart_push : (items : List Span) (c s : Span) → AreApart (items ++ c ∷ []) → (c.greatest +ℤ pos 1) <ℤ s.least → s.least ≤ℤ s.greatest → AreApart ((items ++ c ∷ []) ++ s ∷ [])
apart_push [] c s apart gap some = (apart, gap, some)
apart_push (x ∷ []) c s apart gap some = (apart.0, apart.1, apart_push [] c s apart.2 gap some)
apart_push (x ∷ y ∷ items) c s apart gap some = (apart.0, apart.1, apart_push (y ∷ items) c s apart.2 gap some)

pub apart_grow : (items : List Span) (c s : Span) → AreApart (items ++ c ∷ []) → s.least ≡ c.least → s.least ≤ℤ s.greatest → AreApart (items ++ s ∷ [])
apart_grow [] c s apart e some = some
apart_grow (x ∷ []) c s apart e some = (apart.0, rw e apart.1, some)
apart_grow (x ∷ y ∷ items) c s apart e some = (apart.0, apart.1, apart_grow (y ∷ items) c s apart.2 e some)

pub all_push : (P : Span → Type 0) (items : List Span) (s : Span) → AllByRecursion P items → P s → AllByRecursion P (items ++ s ∷ [])
all_push P [] s all one = (one, tt)
all_push P (x ∷ items) s all one = (all.0, all_push P items s all.1 one)

pub all_front : (P : Span → Type 0) (items : List Span) (s : Span) → AllByRecursion P (items ++ s ∷ []) → AllByRecursion P items
all_front P [] s all = tt
all_front P (x ∷ items) s all = (all.0, all_front P items s all.1)

sorted_on : (c d s : Span) (rest : List Span) → LeastsRise (c ∷ s ∷ rest) → d.least ≡ c.least → LeastsRise (d ∷ rest)
sorted_on c d s [] sorted e = tt
sorted_on c d s (t ∷ rest) sorted e =
    let low : d.least ≤ℤ t.least = rw e (omega (arith, ints, sorted.0, sorted.1.0)) in (low, sorted.1.1)

or_shift : (a b c : Bool) → ((a || (b || false)) || (c || false)) ≡ ((a || (b || false)) || (c || false))
or_shift a b c = refl

has_push : (items seen : List Span) (s : Span) (x : ℤ) → has items x ≡ has seen x → has (items ++ s ∷ []) x ≡ has (seen ++ s ∷ []) x
has_push items seen s x e =
    rw (list_any-append (in_span x) items (s ∷ []), list_any-append (in_span x) seen (s ∷ []), e) refl

-- a span that takes another's numbers in
has_join : (items seen : List Span) (c d s : Span) (x : ℤ) → has (items ++ c ∷ []) x ≡ has seen x → in_span x d ≡ (in_span x c || in_span x s) → has (items ++ d ∷ []) x ≡ has (seen ++ s ∷ []) x
has_join items seen c d s x e h =
    let l = list_any-append (in_span x) items (d ∷ []) in
    let m = list_any-append (in_span x) items (c ∷ []) in
    let r = list_any-append (in_span x) seen (s ∷ []) in
    rw (l, r, ← e, m) (joined_tests (has items x) (in_span x c) (in_span x s) (in_span x d) h)
  where
    joined_tests : (a b c d : Bool) → d ≡ (b || c) → (a || (d || false)) ≡ ((a || (b || false)) || (c || false))
    joined_tests true b c d e = refl
    joined_tests false true c d e = rw e refl
    joined_tests false false c d e = rw e refl

joined_span : (c s : Span) (x : ℤ) → c.least ≤ℤ s.least → s.least ≤ℤ (c.greatest +ℤ pos 1) → c.greatest <ℤ s.greatest → (int_le c.least x && int_le x s.greatest) ≡ (in_span x c || in_span x s)
joined_span c s x low touch up = grind (arith, ints)

inner_span : (c s : Span) (x : ℤ) → c.least ≤ℤ s.least → s.greatest ≤ℤ c.greatest → in_span x c ≡ (in_span x c || in_span x s)
inner_span c s x low up = grind (arith, ints)

pub gap_step : (items : List Span) (c s : Span) (rest seen : List Span) → Joined items c (s ∷ rest) seen → (c.greatest +ℤ pos 1) <ℤ s.least → Joined (items ++ c ∷ []) s rest (seen ++ s ∷ [])
gap_step items c s rest seen j gap = record {
  apart = apart_push items c s j.apart gap j.numbers.1.0;
  same = λ x. has_push (items ++ c ∷ []) seen s x (j.same x);
  range = all_push IsSpanInRange (items ++ c ∷ []) s j.range j.ranges.1.0;
  numbers = j.numbers.1;
  ranges = j.ranges.1;
  sorted = j.sorted.1;
}

pub join_step : (items : List Span) (c s d : Span) (rest seen : List Span) → Joined items c (s ∷ rest) seen → d.least ≡ c.least → d.greatest ≡ s.greatest → s.least ≤ℤ (c.greatest +ℤ pos 1) → c.greatest <ℤ s.greatest → Joined items d rest (seen ++ s ∷ [])
join_step items c s d rest seen j least greatest touch up =
    let some : d.least ≤ℤ d.greatest = rw (least, greatest) (omega (arith, ints, j.numbers.0)) in
    let within : IsSpanInRange d = rw (least, greatest) (j.ranges.0.0, j.ranges.1.0.1) in
    record {
      apart = apart_grow items c d j.apart least some;
      same = λ x. has_join items seen c d s x (j.same x) (rw (least, greatest) (joined_span c s x j.sorted.0 touch up));
      range = all_push IsSpanInRange items d (all_front IsSpanInRange items c j.range) within;
      numbers = (some, j.numbers.1.1);
      ranges = (within, j.ranges.1.1);
      sorted = sorted_on c d s rest j.sorted least;
    }

pub skip_step : (items : List Span) (c s : Span) (rest seen : List Span) → Joined items c (s ∷ rest) seen → s.greatest ≤ℤ c.greatest → Joined items c rest (seen ++ s ∷ [])
skip_step items c s rest seen j up = record {
  apart = j.apart;
  same = λ x. has_join items seen c c s x (j.same x) (inner_span c s x j.sorted.0 up);
  range = j.range;
  numbers = (j.numbers.0, j.numbers.1.1);
  ranges = (j.ranges.0, j.ranges.1.1);
  sorted = sorted_on c c s rest j.sorted refl;
}

pub joined_first : (first : Span) (rest : List Span) → AllByRecursion HasNumber (first ∷ rest) → AllByRecursion IsSpanInRange (first ∷ rest) → LeastsRise (first ∷ rest) → Joined [] first (first ∷ rest) (first ∷ [])
joined_first first rest numbers ranges sorted = record {
  apart = numbers.0;
  same = λ x. refl;
  range = (ranges.0, tt);
  numbers = (numbers.0, numbers);
  ranges = (ranges.0, ranges);
  sorted = (omega (arith, ints), sorted);
}

-- the same of a list that isn't empty
pub joined_start : (spans : List Span) (d : Span) → 0 < length spans → AllByRecursion HasNumber spans → AllByRecursion IsSpanInRange spans → LeastsRise spans → Joined [] (get_or spans 0 d) spans (get_or spans 0 d ∷ [])
joined_start [] d some numbers ranges sorted = absurd (omega arith)
joined_start (s ∷ spans) d some numbers ranges sorted = joined_first s spans numbers ranges sorted

pub joined_end : (spans : List Span) (d : Span) (x : ℤ) → 0 < length spans → has (get_or spans 0 d ∷ spans) x ≡ has spans x
joined_end [] d x some = absurd (omega arith)
joined_end (s ∷ spans) d x some = twice (in_span x s) (has spans x)
  where
    twice : (a b : Bool) → (a || (a || b)) ≡ (a || b)
    twice true b = refl
    twice false b = refl

-- ---- what the calls answer

pub has_at : (spans : List Span) (v : ℤ) (n : ℕ) (d : Span) → AreApart spans → IsFirstReaching spans v n → n < length spans → int_le (get_or spans n d).least v ≡ has spans v
has_at spans v n d apart r within =
    let first = first_tells (in_span v) v (in_span-tells v) spans n d apart r within in
    let up = r.there d within in
    let e : in_span v (get_or spans n d) ≡ int_le (get_or spans n d).least v = reach_tests (get_or spans n d) v up in
    sym (first ∙ e)
  where
    reach_tests : (s : Span) (v : ℤ) → v ≤ℤ s.greatest → in_span v s ≡ int_le s.least v
    reach_tests s v up = grind (arith, ints)

pub has_none : (spans : List Span) (v : ℤ) (n : ℕ) → IsFirstReaching spans v n → length spans ≤ n → false ≡ has spans v
has_none spans v n r past = sym (none_tells (in_span v) v (in_span-tells v) spans n r past)

pub against_none : (spans : List Span) (least greatest : ℤ) (n : ℕ) → least ≤ℤ greatest → IsFirstReaching spans least n → length spans ≤ n → No ≡ against least greatest spans
against_none spans least greatest n order r past =
    let c = none_tells (covers least greatest) least (covers-tells least greatest order) spans n r past in
    let m = none_tells (meets least greatest) least (meets-tells least greatest order) spans n r past in
    rw (c, m) refl

pub against_yes : (spans : List Span) (least greatest : ℤ) (n : ℕ) (d : Span) → least ≤ℤ greatest → AreApart spans → IsFirstReaching spans least n → n < length spans → (get_or spans n d).least ≤ℤ least → greatest ≤ℤ (get_or spans n d).greatest → Yes ≡ against least greatest spans
against_yes spans least greatest n d order apart r within low high =
    let first = first_tells (covers least greatest) least (covers-tells least greatest order) spans n d apart r within in
    let e : covers least greatest (get_or spans n d) ≡ true = covers_of (get_or spans n d) least greatest low high in
    rw (first, e) refl
  where
    covers_of : (s : Span) (least greatest : ℤ) → s.least ≤ℤ least → greatest ≤ℤ s.greatest → covers least greatest s ≡ true
    covers_of s least greatest low high = grind (arith, ints)

pub against_rest : (spans : List Span) (least greatest : ℤ) (n : ℕ) (d : Span) → least ≤ℤ greatest → AreApart spans → IsFirstReaching spans least n → n < length spans → covers least greatest (get_or spans n d) ≡ false → (if int_le (get_or spans n d).least greatest then Unknown else No) ≡ against least greatest spans
against_rest spans least greatest n d order apart r within open_ =
    let c = first_tells (covers least greatest) least (covers-tells least greatest order) spans n d apart r within in
    let m = first_tells (meets least greatest) least (meets-tells least greatest order) spans n d apart r within in
    let e : meets least greatest (get_or spans n d) ≡ int_le (get_or spans n d).least greatest = meets_of (get_or spans n d) least greatest (r.there d within) in
    rw (c, open_, m, e) refl
  where
    meets_of : (s : Span) (least greatest : ℤ) → least ≤ℤ s.greatest → meets least greatest s ≡ int_le s.least greatest
    meets_of s least greatest up = grind (arith, ints)

pub uncovered_low : (s : Span) (least greatest : ℤ) → least <ℤ s.least → covers least greatest s ≡ false
uncovered_low s least greatest h = grind (arith, ints)

pub uncovered_high : (s : Span) (least greatest : ℤ) → s.greatest <ℤ greatest → covers least greatest s ≡ false
uncovered_high s least greatest h = grind (arith, ints)

pub against_unknown : (spans : List Span) (least greatest : ℤ) (n : ℕ) (d : Span) → least ≤ℤ greatest → AreApart spans → IsFirstReaching spans least n → n < length spans → covers least greatest (get_or spans n d) ≡ false → (get_or spans n d).least ≤ℤ greatest → Unknown ≡ against least greatest spans
against_unknown spans least greatest n d order apart r within open_ low =
    let t = int_le-true (get_or spans n d).least greatest low in
    rw t at (against_rest spans least greatest n d order apart r within open_)

pub against_no : (spans : List Span) (least greatest : ℤ) (n : ℕ) (d : Span) → least ≤ℤ greatest → AreApart spans → IsFirstReaching spans least n → n < length spans → covers least greatest (get_or spans n d) ≡ false → greatest <ℤ (get_or spans n d).least → No ≡ against least greatest spans
against_no spans least greatest n d order apart r within open_ high =
    let t = int_le-false (get_or spans n d).least greatest high in
    rw t at (against_rest spans least greatest n d order apart r within open_)

-- ---- the spans that have a number, in order

pub has-nonempty : (spans : List Span) (x : ℤ) → has (filter has_number spans) x ≡ has spans x
has-nonempty [] x = refl
has-nonempty (s ∷ spans) x =
    either (has_number s)
    (λ some. rw some (ap (λ b. in_span x s || b) (has-nonempty spans x)))
    (λ none. rw (none, empty_span s x none) (has-nonempty spans x))
  where
    empty_span : (s : Span) (x : ℤ) → has_number s ≡ false → in_span x s ≡ false
    empty_span s x none = grind (arith, ints)

pub numbers-nonempty : (spans : List Span) → AllByRecursion HasNumber (filter has_number spans)
numbers-nonempty [] = tt
numbers-nonempty (s ∷ spans) =
    elim (has_number s) as (λ b. (has_number s ≡ b) → AllByRecursion HasNumber (cond b (s ∷ filter has_number spans) (filter has_number spans))) [
      | true ↦ λ some. (le_from s.least s.greatest some, numbers-nonempty spans)
      | false ↦ λ none. numbers-nonempty spans
    ] refl

pub range-nonempty : (spans : List Span) → AllByRecursion IsSpanInRange spans → AllByRecursion IsSpanInRange (filter has_number spans)
range-nonempty [] all = tt
range-nonempty (s ∷ spans) all =
    elim (has_number s) as (λ b. AllByRecursion IsSpanInRange (cond b (s ∷ filter has_number spans) (filter has_number spans))) [
      | true ↦ (all.0, range-nonempty spans all.1)
      | false ↦ range-nonempty spans all.1
    ]

pub leasts_rise : (spans : List Span) → ((k : ℕ) (d : Span) → k + 1 < length spans → int_lt (get_or spans (k + 1) d).least (get_or spans k d).least ≡ false) → LeastsRise spans
leasts_rise [] h = tt
leasts_rise (s ∷ []) h = tt
leasts_rise (s ∷ t ∷ spans) h =
    let first : int_lt t.least s.least ≡ false = h 0 s (omega arith) in
    (grind (arith, ints), leasts_rise (t ∷ spans) (λ k d p. rw add-one (rw add-one at (h (suc k) d (omega arith)))))

-- one more span is seen
pub seen_more : (first s : Span) (rest : List Span) (i : ℕ) (d : Span) → i < length rest → get_or rest i d ≡ s → (first ∷ take i rest) ++ s ∷ [] ≡ first ∷ take (i + 1) rest
seen_more first s rest i d within e = ap (λ xs. first ∷ xs) (grind (arith, common_steps))

pub next_of : (rest : List Span) (i : ℕ) (d : Span) → i < length rest → drop i rest ≡ get_or rest i d ∷ drop (i + 1) rest
next_of rest i d within = rw add-one (drop-cons rest i d within)

pub le_test : (a b : ℤ) → le_z a b ≡ int_le a b
le_test a b = grind (arith, ints)

all_of_recursion : (P : Span → Type 0) (xs : List Span) → AllByRecursion P xs → All P xs
all_of_recursion P [] all = All-nil P
all_of_recursion P (x ∷ xs) all = All-cons P x xs all.0 (all_of_recursion P xs all.1)

recursion_of_all : (P : Span → Type 0) (xs : List Span) → All P xs → AllByRecursion P xs
recursion_of_all P [] all = tt
recursion_of_all P (x ∷ xs) all = (All-head P x xs all, recursion_of_all P xs (All-tail P x xs all))

pub all_permuted : (P : Span → Type 0) (xs ys : List Span) → IsPermutation xs ys → AllByRecursion P xs → AllByRecursion P ys
all_permuted P xs ys moved all = recursion_of_all P ys (All-permutation P xs ys moved (all_of_recursion P xs all))

pub sorted_leasts : (spans : List Span) → IsSortedByKey (λ s. s.least) int_cmp spans → LeastsRise spans
sorted_leasts spans up = leasts_rise spans (λ k d within. not_less (get_or spans (k + 1) d).least (get_or spans k d).least (up k d (omega arith) within))
  where
    not_less : (a b : ℤ) → is_lt (int_cmp a b) ≡ false → int_lt a b ≡ false
    not_less a b h = either (int_lt a b) (λ e. not_both (rw e refl) h) (λ e. e)
