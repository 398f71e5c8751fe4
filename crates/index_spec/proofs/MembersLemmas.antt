-- The bitmaps that a run of bins needs rise, are kept, and are few.
use Rattle.std.proofs.Common.{◌≡◌, ◌==◌, ℕ, zero, suc, ◌+◌, ◌-◌, ◌*◌, ◌/◌, ◌<◌, ◌≤◌, true, false, List, [], ◌∷◌, ◌++◌, All, length, map, min, Option, Some, None, get_or, nat_le, nat_lt, unwrap_or, if◌then◌else◌, refl, sym, ap, ◌∙◌, add-one, arith, length-append}
use Rattle.std.proofs.lemmas.Grind.{div_ceil_times}
use Rattle.std.proofs.lemmas.Bool.Decides.{nat_tests}
use Rattle.std.proofs.lemmas.List.{length-map}
use Rattle.std.proofs.lemmas.List.FromFn.{length-range_with_len}
use Rattle.std.proofs.Math.Nat.{div-mul-le_self, lt-div-mul-add, mul-le-mul_right, div-lt_iff_lt-mul}
use Rattle.std.specs.List.{range_with_len}
use Rattle.std.specs.List.Sorted.{IsStrictlyIncreasing}
use Rattle.std.specs.Int.{div_ceil}
use Rattle.std.specs.Option.{option_map}
use Rattle.index_spec.specs.declared.spec.Coarse.{Coarse}
use Rattle.index_spec.specs.declared.spec.Coarse.TheVariants as coarse
use Rattle.index_spec.specs.declared.spec.EncodingSpec.{EncodingSpec}
use Rattle.index_spec.specs.declared.spec.EncodingSpec.TheVariants.{Equality, Range, Interval, TwoLevel}
use Rattle.index_spec.specs.Counts.{coarse_count, groups_of, bitmap_count, HasGroups}
use Rattle.index_spec.specs.Members.{from_to, interval_needed, coarse_needed, coarse_bitmaps, grouped_needed, two_level_needed, needed, most_needed}

-- ---- lists that rise within a range

-- The numbers rise and lie from low on, below high.
pub Rises : ℕ → ℕ → List ℕ → Type 0
Rises low high [] = Unit {0}
Rises low high (x ∷ xs) = (low ≤ x) × (x < high) × Rises (x + 1) high xs

pub rises_none : (low high : ℕ) → Rises low high []
unfolding Rises
rises_none low high = tt

pub rises_one : (low high x : ℕ) → low ≤ x → x < high → Rises low high (x ∷ [])
unfolding Rises
rises_one low high x h k = (h, k, tt)

pub rises_two : (low high x y : ℕ) → low ≤ x → x < y → y < high → Rises low high (x ∷ y ∷ [])
unfolding Rises
rises_two low high x y h k l = (h, omega arith, (omega arith, l, tt))

pub rises_from : (low from high : ℕ) (xs : List ℕ) → low ≤ from → Rises from high xs → Rises low high xs
unfolding Rises
rises_from low from high [] h r = tt
rises_from low from high (x ∷ xs) h r = (omega arith, r.1, r.2)

pub rises_to : (low to high : ℕ) (xs : List ℕ) → to ≤ high → Rises low to xs → Rises low high xs
unfolding Rises
rises_to low to high [] h r = tt
rises_to low to high (x ∷ xs) h r = (r.0, omega arith, rises_to (x + 1) to high xs h r.2)

pub rises-append : (low mid high : ℕ) (xs ys : List ℕ) → low ≤ mid → mid ≤ high → Rises low mid xs → Rises mid high ys → Rises low high (xs ++ ys)
unfolding Rises
rises-append low mid high [] ys h k r t = rises_from low mid high ys h t
rises-append low mid high (x ∷ xs) ys h k r t = (r.0, omega arith, rises-append (x + 1) mid high xs ys (omega arith) k r.2 t)

pub rises-map : (q low high : ℕ) (xs : List ℕ) → Rises low high xs → Rises (q + low) (q + high) (map (λ b. q + b) xs)
unfolding Rises
rises-map q low high [] r = tt
rises-map q low high (x ∷ xs) r = (omega arith, omega arith, rises_from (q + x + 1) (q + (x + 1)) (q + high) (map (λ b. q + b) xs) (omega arith) (rises-map q (x + 1) high xs r.2))

rises-range : (from n high : ℕ) → from + n ≤ high → Rises from high (range_with_len from n)
unfolding Rises
rises-range from zero high h = tt
rises-range from (suc n) high h = (omega arith, omega arith, rises-range (from + 1) n high (omega arith))

pub rises-from_to : (i j : ℕ) → i ≤ j → Rises i j (from_to i j)
rises-from_to i j h = rises-range i (j - i) j (omega arith)

rises_next : (low high x k : ℕ) (xs : List ℕ) → Rises low high (x ∷ xs) → k < length xs → x < get_or xs k 0
unfolding Rises
rises_next low high x k [] r h = absurd (omega arith)
rises_next low high x zero (y ∷ ys) r h = omega (arith, r.2.0)
rises_next low high x (suc k) (y ∷ ys) r h = rises_next low high x k ys (r.0, r.1, rises_from (x + 1) (y + 1) high ys (omega arith) r.2.2) (omega arith)

next_above : (low high : ℕ) (xs : List ℕ) (k : ℕ) → Rises low high xs → suc k < length xs → get_or xs k 0 < get_or xs (suc k) 0
unfolding Rises
next_above low high [] k r h = absurd (omega arith)
next_above low high (x ∷ xs) zero r h = rises_next low high x 0 xs r (omega arith)
next_above low high (x ∷ xs) (suc k) r h = next_above (x + 1) high xs k r.2 (omega arith)

pub rising : (low high : ℕ) (xs : List ℕ) → Rises low high xs → IsStrictlyIncreasing xs
rising low high xs r k h = rw (add-one k) (next_above low high xs k r (omega arith))

pub all_below : (low high : ℕ) (xs : List ℕ) → Rises low high xs → All (λ x. x < high) xs
unfolding Rises
all_below low high [] r k d h = absurd (omega arith)
all_below low high (x ∷ xs) r zero d h = r.1
all_below low high (x ∷ xs) r (suc k) d h = all_below (x + 1) high xs r.2 k d (omega arith)

-- ---- one level

-- half of the bins, rounded up
half : (n : ℕ) → (n ≤ 2 * div_ceil n 2) × (2 * div_ceil n 2 ≤ n + 1)
half n = omega arith

range_rises : (n i j q : ℕ) → i < j → j ≤ n → coarse_count coarse.Range n ≡ Some q → Rises 0 q (coarse_needed coarse.Range n i j)
unfolding Rises
range_rises n i j q h k e = grind (arith, nat_tests)

interval_rises : (n w i j q : ℕ) → i < j → j ≤ n → n ≤ 2 * w → 2 * w ≤ n + 1 → q ≡ n - w + 1 → Rises 0 q (interval_needed n w i j)
unfolding Rises
interval_rises n w i j q h k a b e = grind (arith, nat_tests)

equality_rises : (n i j q : ℕ) → i < j → j ≤ n → n ≡ q → Rises 0 q (coarse_needed coarse.Equality n i j)
equality_rises n i j q h k e =
    let inside : Rises 0 q (from_to i j) = rises_from 0 i q (from_to i j) (omega arith) (rises_to i j q (from_to i j) (omega arith) (rises-from_to i j (omega arith))) in
    let outside : Rises 0 q (from_to 0 i ++ from_to j n) = rises-append 0 i q (from_to 0 i) (from_to j n) (omega arith) (omega arith) (rises-from_to 0 i (omega arith)) (rises_from i j q (from_to j n) (omega arith) (rises_to j n q (from_to j n) (omega arith) (rises-from_to j n k))) in
    elim (nat_le (2 * (j - i)) n) as (λ t. Rises 0 q (if t then from_to i j else from_to 0 i ++ from_to j n)) [ true ↦ inside | false ↦ outside ]

coarse_rises : (level : Coarse) (n i j q : ℕ) → i < j → j ≤ n → coarse_count level n ≡ Some q → Rises 0 q (coarse_needed level n i j)
coarse_rises coarse.Equality n i j q h k e = equality_rises n i j q h k (grind (arith, nat_tests))
coarse_rises coarse.Range n i j q h k e = range_rises n i j q h k e
coarse_rises coarse.Interval n i j q h k e = interval_rises n (div_ceil n 2) i j q h k (half n).0 (half n).1 (grind (arith, nat_tests))

-- ---- two levels

-- the whole groups of a run, and the bins beside them
record IsGrouped (n g c s e i j : ℕ) : Type 0 where
  some : 1 ≤ g
  fits : c * g < n + g
  whole : n ≤ c * g
  first : i ≤ s * g
  near : s * g < i + g
  last : e ≤ c
  ends : min (e * g) n ≤ j
  close : j < min (e * g) n + g

grouped_some : (n m : ℕ) → 1 ≤ m → 1 ≤ n → 1 ≤ div_ceil n m
grouped_some n m h k = let d : (n ≤ div_ceil n m * m) × (div_ceil n m * m < n + m) = div_ceil_times n m h in elim (div_ceil n m) as (λ g. n ≤ g * m → 1 ≤ g) [ zero ↦ λ e. absurd (omega arith) | suc g ↦ λ e. omega arith ] d.0

abbrev IsEnd : ℕ → ℕ → ℕ → ℕ → ℕ → Type 0
IsEnd n g c e j = (e ≤ c) × (min (e * g) n ≤ j) × (j < min (e * g) n + g)

is_end : (n g c j : ℕ) → 1 ≤ g → n ≤ c * g → c * g < n + g → 1 ≤ j → j ≤ n → IsEnd n g c (if j == n then c else j / g) j
is_end n g c j some whole fits h l =
    let low : j / g * g ≤ j = div-mul-le_self j g in
    let high : j < j / g * g + g = lt-div-mul-add some in
    let below : j < n → j / g < c = λ m. (div-lt_iff_lt-mul {k = g} {x = j} {y = c} some).1 (omega arith) in
    elim (j == n) as (λ t. (j == n) ≡ t → IsEnd n g c (if t then c else j / g) j) [
      | true ↦ λ e. (let same : j ≡ n = grind (arith, nat_tests) in (omega arith, omega arith, omega arith))
      | false ↦ λ e. (let under : j < n = grind (arith, nat_tests) in let few : j / g < c = below under in (omega arith, omega arith, omega arith))
    ]
    refl

is_grouped : (m n i j : ℕ) → 1 ≤ m → i < j → j ≤ n → IsGrouped n (div_ceil n m) (groups_of n m) (div_ceil i (div_ceil n m)) (if j == n then groups_of n m else j / div_ceil n m) i j
is_grouped m n i j h k l =
    let g = div_ceil n m in
    let c = div_ceil n g in
    let s = div_ceil i g in
    let some : 1 ≤ g = grouped_some n m h (omega arith) in
    let cs : (n ≤ c * g) × (c * g < n + g) = div_ceil_times n g some in
    let ss : (i ≤ s * g) × (s * g < i + g) = div_ceil_times i g some in
    let es : IsEnd n g c (if j == n then c else j / g) j = is_end n g c j some cs.0 cs.1 (omega arith) l in
    record { some = some; fits = cs.1; whole = cs.0; first = ss.0; near = ss.1; last = es.0; ends = es.1; close = es.2 }

-- whole groups and products of their numbers
groups_apart : (s e g : ℕ) → s < e → s * g + g ≤ e * g
groups_apart s e g h =
    let more : (s + 1) * g ≤ e * g = mul-le-mul_right g (omega arith) in
    let one : (s + 1) * g ≡ s * g + g = grind arith in
    omega arith

groups_ordered : (s e g : ℕ) → e ≤ s → e * g ≤ s * g
groups_ordered s e g h = mul-le-mul_right g h

grouped_rises : (level : Coarse) (n g c q s e i j : ℕ) → IsGrouped n g c s e i j → i < j → j ≤ n → (s < e → Rises 0 q (coarse_needed level c s e)) → Rises 0 (q + n) (grouped_needed level n g c q s e i j)
grouped_rises level n g c q s e i j p h k r =
    elim (nat_lt s e) as (λ t. nat_lt s e ≡ t → Rises 0 (q + n) (if t then coarse_needed level c s e ++ map (λ b. q + b) (from_to i (s * g) ++ from_to (min (e * g) n) j) else map (λ b. q + b) (from_to i j))) [
      | true ↦ λ t. (let some : s < e = grind (arith, nat_tests) in
          let gap = groups_apart s e g some in
          let most = groups_ordered c e g p.last in
          let fine : Rises i n (from_to i (s * g) ++ from_to (min (e * g) n) j) = rises-append i (s * g) n (from_to i (s * g)) (from_to (min (e * g) n) j) p.first (omega (arith, p.fits)) (rises-from_to i (s * g) p.first) (rises_from (s * g) (min (e * g) n) n (from_to (min (e * g) n) j) (omega (arith, p.fits)) (rises_to (min (e * g) n) j n (from_to (min (e * g) n) j) k (rises-from_to (min (e * g) n) j p.ends))) in
          rises-append 0 q (q + n) (coarse_needed level c s e) (map (λ b. q + b) (from_to i (s * g) ++ from_to (min (e * g) n) j)) (omega arith) (omega arith) (r some) (rises_from q (q + i) (q + n) (map (λ b. q + b) (from_to i (s * g) ++ from_to (min (e * g) n) j)) (omega arith) (rises-map q i n (from_to i (s * g) ++ from_to (min (e * g) n) j) fine)))
      | false ↦ λ t. rises_from 0 (q + i) (q + n) (map (λ b. q + b) (from_to i j)) (omega arith) (rises-map q i n (from_to i j) (rises_to i j n (from_to i j) k (rises-from_to i j (omega arith))))
    ]
    refl

two_level_rises : (level : Coarse) (m n i j q : ℕ) → 1 ≤ m → i < j → j ≤ n → coarse_count level (groups_of n m) ≡ Some q → Rises 0 (q + n) (two_level_needed level m n i j)
two_level_rises level m n i j q h k l e =
    let g = div_ceil n m in
    let c = groups_of n m in
    let e' = if j == n then c else j / g in
    let p = is_grouped m n i j h k l in
    let same : coarse_bitmaps level m n ≡ q = ap (λ o. unwrap_or o 0) e in
    rw same (grouped_rises level n g c q (div_ceil i g) e' i j p k l (λ some. coarse_rises level c (div_ceil i g) e' q some p.last e))

-- there are n bitmaps more than the coarse level keeps
two_level_kept : (level : Coarse) (m n i j q : ℕ) (o : Option ℕ) → 1 ≤ m → i < j → j ≤ n → coarse_count level (groups_of n m) ≡ o → (if n == 0 then Some 0 else option_map (λ p. n + p) o) ≡ Some q → Rises 0 q (two_level_needed level m n i j)
two_level_kept level m n i j q None h k l e f = absurd (let some : (n == 0) ≡ false = grind (arith, nat_tests) in let none : Some q ≡ None = sym f ∙ ap (λ t. if t then Some 0 else None) some in cc)
two_level_kept level m n i j q (Some p) h k l e f =
    let some : (n == 0) ≡ false = grind (arith, nat_tests) in
    let is : Some (n + p) ≡ Some q = sym (ap (λ t. if t then Some 0 else Some (n + p)) some) ∙ f in
    let same : n + p ≡ q = cc in
    rises_to 0 (p + n) q (two_level_needed level m n i j) (omega arith) (two_level_rises level m n i j p h k l e)

needed_rises : (e : EncodingSpec) (n i j q : ℕ) → HasGroups e → i < j → j ≤ n → bitmap_count e n ≡ Some q → Rises 0 q (needed e n i j)
needed_rises Equality n i j q g h k e = coarse_rises coarse.Equality n i j q h k e
needed_rises Range n i j q g h k e = coarse_rises coarse.Range n i j q h k e
needed_rises Interval n i j q g h k e = coarse_rises coarse.Interval n i j q h k e
needed_rises (TwoLevel level m) n i j q g h k e = two_level_kept level m n i j q (coarse_count level (groups_of n m)) g h k refl e

pub kept : (e : EncodingSpec) (n i j q : ℕ) → HasGroups e → i < j → j ≤ n → bitmap_count e n ≡ Some q → All (λ k. k < q) (needed e n i j)
kept e n i j q g h k b = all_below 0 q (needed e n i j) (needed_rises e n i j q g h k b)

pub in_order : (e : EncodingSpec) (n i j q : ℕ) → HasGroups e → i < j → j ≤ n → bitmap_count e n ≡ Some q → IsStrictlyIncreasing (needed e n i j)
in_order e n i j q g h k b = rising 0 q (needed e n i j) (needed_rises e n i j q g h k b)

-- ---- few

length-from_to : (i j : ℕ) → length (from_to i j) ≡ j - i
length-from_to i j = length-range_with_len i (j - i)

pub length-equality : (n i j : ℕ) → i < j → j ≤ n → length (coarse_needed coarse.Equality n i j) ≡ min (j - i) (n - (j - i))
length-equality n i j h k =
    elim (nat_le (2 * (j - i)) n) as (λ t. nat_le (2 * (j - i)) n ≡ t → length (if t then from_to i j else from_to 0 i ++ from_to j n) ≡ min (j - i) (n - (j - i))) [
      | true ↦ λ e. (let few : 2 * (j - i) ≤ n = grind (arith, nat_tests) in omega (arith, length-from_to i j))
      | false ↦ λ e. (let most : n < 2 * (j - i) = grind (arith, nat_tests) in omega (arith, length-append (from_to 0 i) (from_to j n), length-from_to 0 i, length-from_to j n))
    ]
    refl

length-coarse : (level : Coarse) (n i j : ℕ) → i < j → j ≤ n → length (coarse_needed level n i j) ≤ most_needed level n
length-coarse coarse.Equality n i j h k = omega (arith, length-equality n i j h k)
length-coarse coarse.Range n i j h k = grind (arith, nat_tests)
length-coarse coarse.Interval n i j h k = grind (arith, nat_tests)

grouped_few : (level : Coarse) (n g c q s e i j : ℕ) → IsGrouped n g c s e i j → i < j → j ≤ n → length (grouped_needed level n g c q s e i j) ≤ most_needed level c + 2 * (g - 1)
grouped_few level n g c q s e i j p h k =
    elim (nat_lt s e) as (λ t. nat_lt s e ≡ t → length (if t then coarse_needed level c s e ++ map (λ b. q + b) (from_to i (s * g) ++ from_to (min (e * g) n) j) else map (λ b. q + b) (from_to i j)) ≤ most_needed level c + 2 * (g - 1)) [
      | true ↦ λ t. (let some : s < e = grind (arith, nat_tests) in
          omega (arith, p.some, p.near, p.close, length-append (coarse_needed level c s e) (map (λ b. q + b) (from_to i (s * g) ++ from_to (min (e * g) n) j)), length-map (from_to i (s * g) ++ from_to (min (e * g) n) j) (λ b. q + b), length-append (from_to i (s * g)) (from_to (min (e * g) n) j), length-from_to i (s * g), length-from_to (min (e * g) n) j, length-coarse level c s e some p.last))
      | false ↦ λ t. (let none : e ≤ s = grind (arith, nat_tests) in omega (arith, p.some, p.near, p.close, groups_ordered s e g none, length-map (from_to i j) (λ b. q + b), length-from_to i j))
    ]
    refl

pub few : (level : Coarse) (m n i j : ℕ) → 1 ≤ m → i < j → j ≤ n → length (two_level_needed level m n i j) ≤ most_needed level (groups_of n m) + 2 * (div_ceil n m - 1)
few level m n i j h k l =
    let g = div_ceil n m in
    let c = groups_of n m in
    grouped_few level n g c (coarse_bitmaps level m n) (div_ceil i g) (if j == n then c else j / g) i j (is_grouped m n i j h k l) k l
