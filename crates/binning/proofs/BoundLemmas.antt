-- Bounds that are added in rising order, of equal widths and of equal weights.
use Rattle.std.proofs.Common.{◌≡◌, ℕ, ◌+◌, ◌-◌, ◌*◌, ◌/◌, ◌^◌, ◌<◌, ◌≤◌, ◌||◌, List, [], ◌∷◌, ◌++◌, length, get_or, map, ℤ, pos, ◌+ℤ◌, ◌≤ℤ◌, refl, sym, ap, ◌∙◌, arith}
use Rattle.std.specs.Int.{int_gap}
use Rattle.std.specs.List.{AllByRecursion, range_with_len}
use Rattle.std.specs.List.Sorted.{IsSorted}
use Rattle.std.specs.Ordering.{int_eq, int_cmp}
use Rattle.std.proofs.lemmas.Int.{ints}
use Rattle.std.proofs.lemmas.List.FromFn.{map-range_with_len_more}
use Rattle.std.proofs.Math.Nat.{mul-le-mul_left, mul-le-mul_right, le-div_iff_mul-le, mul-div-le}
use Rattle.binning.specs.Keys.{Rises, rising, weight_bounds}
use Rattle.binning.specs.Gathered.{is_in}
use Rattle.binning.proofs.KeyLemmas.{is_in-append, rising_from, all_le_up, sorted_le}

abbrev pub width_bound : ℤ → ℤ → ℕ → ℕ → ℤ
width_bound start end count j = start +ℤ pos (j * int_gap start end / count)

abbrev pub weight_bound : ℕ → List ℤ → ℕ → ℤ
weight_bound count vs j = get_or vs (j * length vs / count) (pos 0)

-- The bounds from the first-th to the one before the j-th, each once, of those before the last-th.
pub record IsCut (bound : ℕ → ℤ) (first last j : ℕ) (bounds : List ℤ) : Type 0 where
  pub rises : Rises bounds
  pub has : (v : ℤ) → is_in v bounds ≡ is_in v (map bound (range_with_len first (j - first)))
  pub least : j < last → AllByRecursion (λ b. b ≤ℤ bound j) bounds

pub cut_start : (bound : ℕ → ℤ) (first last : ℕ) (bounds : List ℤ) → bounds ≡ [] → IsCut bound first last first bounds
cut_start bound first last bounds e =
    let n : first - first ≡ 0 = omega arith in
    record { rises = rw e tt; has = λ v. rw (e, n) refl; least = λ h. rw e tt }

pub cut_more : (bound : ℕ → ℤ) (first last j : ℕ) (old new : List ℤ) → first ≤ j → IsCut bound first last j old → (j + 1 < last → bound j ≤ℤ bound (j + 1)) → Rises new → AllByRecursion (λ b. b ≤ℤ bound j) new → ((v : ℤ) → is_in v new ≡ (is_in v old || int_eq v (bound j))) → IsCut bound first last (j + 1) new
cut_more bound first last j old new low cut up rises least has = record {
  rises = rises;
  has = λ v. has v ∙ ap (λ b. b || int_eq v (bound j)) (cut.has v) ∙ sym (is_in-append v (map bound (range_with_len first (j - first))) (bound j)) ∙ ap (λ xs. is_in v xs) (longer bound first j low);
  least = λ h. all_le_up (bound j) (bound (j + 1)) new (up h) least;
}
  where
    longer : (bound : ℕ → ℤ) (first j : ℕ) → first ≤ j → map bound (range_with_len first (j - first)) ++ bound j ∷ [] ≡ map bound (range_with_len first (j + 1 - first))
    longer bound first j low =
        let e : j - first + 1 ≡ j + 1 - first = omega arith in
        sym (map-range_with_len_more bound first (j - first) j (omega arith)) ∙ ap (λ n. map bound (range_with_len first n)) e

pub cut_end : (bound : ℕ → ℤ) (first last j n : ℕ) (bounds : List ℤ) → IsCut bound first last j bounds → j - first ≡ n → bounds ≡ rising (map bound (range_with_len first n))
cut_end bound first last j n bounds cut e = rising_from bounds (map bound (range_with_len first n)) cut.rises (λ v. cut.has v ∙ ap (λ m. is_in v (map bound (range_with_len first m))) e)

-- ---- sizes

pub div_le : (a b k : ℕ) → 0 < k → a ≤ b → a / k ≤ b / k
div_le a b k some h = let m = mul-div-le a k in grind (arith, (le-div_iff_mul-le {k = k} {x = a / k} {y = b} some).1)

pub width_up : (start end : ℤ) (count j : ℕ) → 0 < count → width_bound start end count j ≤ℤ width_bound start end count (j + 1)
width_up start end count j some =
    let m : j * int_gap start end ≤ (j + 1) * int_gap start end = omega arith in
    let d = div_le (j * int_gap start end) ((j + 1) * int_gap start end) count some m in
    omega (arith, ints)

pub times_fits : (j w : ℕ) → j ≤ 100000 → w ≤ 2 ^ 66 → j * w ≤ 100000 * 2 ^ 66
times_fits j w h k =
    let a = mul-le-mul_left j k in
    let b : j * 2 ^ 66 ≤ 100000 * 2 ^ 66 = omega arith in
    omega arith

pub part_fits : (j w count : ℕ) → j ≤ 100000 → w ≤ 2 ^ 66 → 0 < count → j * w / count ≤ 100000 * 2 ^ 66
part_fits j w count h k some =
    let a = times_fits j w h k in
    let b : j * w / count ≤ j * w = div_self (j * w) count some in
    omega arith
  where
    div_self : (a k : ℕ) → 0 < k → a / k ≤ a
    div_self a k some = let m = mul-div-le a k in let n = mul-le-mul_right (a / k) some in omega arith

-- a place below the end
pub place_below : (j m count : ℕ) → j < count → 0 < m → j * m / count < m
place_below j m count h some =
    let d = mul-div-le (j * m) count in
    let s : j + 1 ≤ count = omega arith in
    let l : (j + 1) * m ≤ count * m = mul-le-mul_right m s in
    by_contradiction j m count (j * m / count) some d l
  where
    by_contradiction : (j m count q : ℕ) → 0 < m → count * q ≤ j * m → (j + 1) * m ≤ count * m → q < m
    by_contradiction j m count q some d l =
        let f : m ≤ q → count * m ≤ count * q = λ h. mul-le-mul_left count h in
        grind arith

pub weight_up : (count j : ℕ) (vs : List ℤ) → IsSorted int_cmp vs → 0 < length vs → j + 1 < count → weight_bound count vs j ≤ℤ weight_bound count vs (j + 1)
weight_up count j vs up some within =
    let m : j * length vs ≤ (j + 1) * length vs = omega arith in
    sorted_le vs (j * length vs / count) ((j + 1) * length vs / count) (pos 0) up (div_le (j * length vs) ((j + 1) * length vs) count (omega arith) m) (place_below (j + 1) (length vs) count within some)

pub weight_bounds_some : (count : ℕ) (vs : List ℤ) → 0 < length vs → weight_bounds count vs ≡ map (weight_bound count vs) (range_with_len 1 (count - 1))
weight_bounds_some count [] some = absurd (omega arith)
weight_bounds_some count (v ∷ vs) some = refl

pub weight_bounds_none : (count : ℕ) (vs : List ℤ) → length vs ≡ 0 → weight_bounds count vs ≡ []
weight_bounds_none count [] e = refl
weight_bounds_none count (v ∷ vs) e = absurd (omega arith)
