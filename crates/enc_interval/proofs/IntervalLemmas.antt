-- The answer of a run, case by case.
use Rattle.std.proofs.Common.{◌≡◌, ℕ, ◌+◌, ◌-◌, ◌*◌, ◌<◌, ◌≤◌, Bool, true, false, ◌&&◌, nat_le, nat_lt, List, length, get_or, refl, arith}
use Rattle.std.proofs.lemmas.Bool.Decides.{nat_tests}
use Rattle.std.specs.Int.{div_ceil}
use Rattle.index_spec.specs.declared.spec.EncodingSpec.TheVariants.{Interval}
use Rattle.index_spec.specs.Members.{needed, interval_needed}
use Rattle.wah_logic.specs.Logic.{each_place, and, or, and_not}
use Rattle.binning.specs.Members.{union_of, in_run, AreFetched}
use Rattle.binning.proofs.FetchedLemmas.{fetched_at, mask_is, of_one, of_two}
use Rattle.enc_interval.specs.declared.interval.Case.{Case}
use Rattle.enc_interval.specs.declared.interval.Case.TheVariants.{All, Half, More, Low, High, Middle}
use Rattle.enc_interval.specs.Halves.{IsCase}

half_of : (n : ℕ) → (n ≤ 2 * div_ceil n 2) × (2 * div_ceil n 2 ≤ n + 1)
half_of n = omega arith

-- ---- which case it is

is_all : (n w i j : ℕ) → i < j → j ≤ n → n ≤ 2 * w → 2 * w ≤ n + 1 → length (interval_needed n w i j) < 1 → j - i ≡ n
is_all n w i j h k a b few = grind (arith, nat_tests)

is_half : (n w i j : ℕ) → i < j → j ≤ n → n ≤ 2 * w → 2 * w ≤ n + 1 → length (interval_needed n w i j) < 2 → 1 ≤ length (interval_needed n w i j) → j - i ≡ w
is_half n w i j h k a b few some = grind (arith, nat_tests)

first_half : (n w i j : ℕ) → i < j → j ≤ n → n ≤ 2 * w → 2 * w ≤ n + 1 → length (interval_needed n w i j) < 2 → 1 ≤ length (interval_needed n w i j) → get_or (interval_needed n w i j) 0 0 ≡ i
first_half n w i j h k a b few some = grind (arith, nat_tests)

-- ---- the answers

pub whole : (n i j : ℕ) (vs fetched : List (List Bool)) (mask : List Bool) → i < j → j ≤ n → length fetched ≡ length (needed Interval n i j) → length fetched < 1 → AreFetched Interval n i j vs fetched mask → mask ≡ union_of (length mask) (in_run i j) vs
whole n i j vs fetched mask h k number few f =
    let w = div_ceil n 2 in
    let all : j - i ≡ n = is_all n w i j h k (half_of n).0 (half_of n).1 (omega arith) in
    of_one Interval n i j vs fetched mask f mask (λ b. true) (mask_is Interval n i j vs fetched mask f) (λ b l. grind (arith, nat_tests))

half_member : (n w i j b : ℕ) → j - i ≡ w → i < j → (nat_le i b && nat_lt b (i + w)) ≡ in_run i j b
half_member n w i j b e h = grind (arith, nat_tests)

pub half : (n i j : ℕ) (vs fetched : List (List Bool)) (mask v : List Bool) → i < j → j ≤ n → length fetched ≡ length (needed Interval n i j) → 1 ≤ length fetched → length fetched < 2 → v ≡ get_or fetched 0 v → AreFetched Interval n i j vs fetched mask → v ≡ union_of (length mask) (in_run i j) vs
half n i j vs fetched mask v h k number some few e f =
    let w = div_ceil n 2 in
    let same : j - i ≡ w = is_half n w i j h k (half_of n).0 (half_of n).1 (omega arith) (omega arith) in
    let place = first_half n w i j h k (half_of n).0 (half_of n).1 (omega arith) (omega arith) in
    of_one Interval n i j vs fetched mask f v (λ b. nat_le i b && nat_lt b (i + w)) (fetched_at Interval n i j vs fetched mask f 0 i v (omega arith) place e) (λ b l. half_member n w i j b same h)

-- two bitmaps, at places p and q, whose members come to the run by the operation
two : (n i j p q : ℕ) (vs fetched : List (List Bool)) (mask v u : List Bool) (op : Bool → Bool → Bool) → op false false ≡ false → 2 ≤ length (needed Interval n i j) → get_or (needed Interval n i j) 0 0 ≡ p → get_or (needed Interval n i j) 1 0 ≡ q → v ≡ get_or fetched 0 v → u ≡ get_or fetched 1 u → AreFetched Interval n i j vs fetched mask → ((b : ℕ) → b < n → op (nat_le p b && nat_lt b (p + div_ceil n 2)) (nat_le q b && nat_lt b (q + div_ceil n 2)) ≡ in_run i j b) → each_place op v u ≡ union_of (length mask) (in_run i j) vs
two n i j p q vs fetched mask v u op none some first second e d f same =
    of_two Interval n i j vs fetched mask f op none v u (λ b. nat_le p b && nat_lt b (p + div_ceil n 2)) (λ b. nat_le q b && nat_lt b (q + div_ceil n 2)) (fetched_at Interval n i j vs fetched mask f 0 p v (omega arith) first e) (fetched_at Interval n i j vs fetched mask f 1 q u (omega arith) second d) same

-- the same with the operands swapped
two_swapped : (n i j p q : ℕ) (vs fetched : List (List Bool)) (mask v u : List Bool) (op : Bool → Bool → Bool) → op false false ≡ false → 2 ≤ length (needed Interval n i j) → get_or (needed Interval n i j) 0 0 ≡ p → get_or (needed Interval n i j) 1 0 ≡ q → v ≡ get_or fetched 0 v → u ≡ get_or fetched 1 u → AreFetched Interval n i j vs fetched mask → ((b : ℕ) → b < n → op (nat_le q b && nat_lt b (q + div_ceil n 2)) (nat_le p b && nat_lt b (p + div_ceil n 2)) ≡ in_run i j b) → each_place op u v ≡ union_of (length mask) (in_run i j) vs
two_swapped n i j p q vs fetched mask v u op none some first second e d f same =
    of_two Interval n i j vs fetched mask f op none u v (λ b. nat_le q b && nat_lt b (q + div_ceil n 2)) (λ b. nat_le p b && nat_lt b (p + div_ceil n 2)) (fetched_at Interval n i j vs fetched mask f 1 q u (omega arith) second d) (fetched_at Interval n i j vs fetched mask f 0 p v (omega arith) first e) same

more_needed : (n w i j : ℕ) → IsCase n w i j More → (get_or (interval_needed n w i j) 0 0 ≡ i) × (get_or (interval_needed n w i j) 1 0 ≡ j - w)
more_needed n w i j c = (grind (arith, nat_tests), grind (arith, nat_tests))

more_members : (n w i j b : ℕ) → j ≤ n → n ≤ 2 * w → IsCase n w i j More → or (nat_le i b && nat_lt b (i + w)) (nat_le (j - w) b && nat_lt b (j - w + w)) ≡ in_run i j b
more_members n w i j b k a c = grind (arith, nat_tests)

pub more : (n i j : ℕ) (vs fetched : List (List Bool)) (mask v u : List Bool) → i < j → j ≤ n → 2 ≤ length (needed Interval n i j) → IsCase n (div_ceil n 2) i j More → v ≡ get_or fetched 0 v → u ≡ get_or fetched 1 u → AreFetched Interval n i j vs fetched mask → each_place or v u ≡ union_of (length mask) (in_run i j) vs
more n i j vs fetched mask v u h k some c e d f =
    let w = div_ceil n 2 in
    let at = more_needed n w i j c in
    two n i j i (j - w) vs fetched mask v u or refl some at.0 at.1 e d f (λ b l. more_members n w i j b k (half_of n).0 c)

low_needed : (n w i j : ℕ) → w ≤ n → IsCase n w i j Low → (get_or (interval_needed n w i j) 0 0 ≡ i) × (get_or (interval_needed n w i j) 1 0 ≡ j)
low_needed n w i j a c = (grind (arith, nat_tests), grind (arith, nat_tests))

low_members : (n w i j b : ℕ) → i < j → IsCase n w i j Low → and_not (nat_le i b && nat_lt b (i + w)) (nat_le j b && nat_lt b (j + w)) ≡ in_run i j b
low_members n w i j b h c = grind (arith, nat_tests)

pub low : (n i j : ℕ) (vs fetched : List (List Bool)) (mask v u : List Bool) → i < j → j ≤ n → 2 ≤ length (needed Interval n i j) → IsCase n (div_ceil n 2) i j Low → v ≡ get_or fetched 0 v → u ≡ get_or fetched 1 u → AreFetched Interval n i j vs fetched mask → each_place and_not v u ≡ union_of (length mask) (in_run i j) vs
low n i j vs fetched mask v u h k some c e d f =
    let w = div_ceil n 2 in
    let at = low_needed n w i j (omega (arith, (half_of n).1)) c in
    two n i j i j vs fetched mask v u and_not refl some at.0 at.1 e d f (λ b l. low_members n w i j b h c)

high_needed : (n w i j : ℕ) → w ≤ n → IsCase n w i j High → (get_or (interval_needed n w i j) 0 0 ≡ i - w) × (get_or (interval_needed n w i j) 1 0 ≡ j - w)
high_needed n w i j a c = (grind (arith, nat_tests), grind (arith, nat_tests))

high_members : (n w i j b : ℕ) → i < j → 2 * w ≤ n + 1 → IsCase n w i j High → and_not (nat_le (j - w) b && nat_lt b (j - w + w)) (nat_le (i - w) b && nat_lt b (i - w + w)) ≡ in_run i j b
high_members n w i j b h a c = grind (arith, nat_tests)

pub high : (n i j : ℕ) (vs fetched : List (List Bool)) (mask v u : List Bool) → i < j → j ≤ n → 2 ≤ length (needed Interval n i j) → IsCase n (div_ceil n 2) i j High → v ≡ get_or fetched 0 v → u ≡ get_or fetched 1 u → AreFetched Interval n i j vs fetched mask → each_place and_not u v ≡ union_of (length mask) (in_run i j) vs
high n i j vs fetched mask v u h k some c e d f =
    let w = div_ceil n 2 in
    let at = high_needed n w i j (omega (arith, (half_of n).1)) c in
    two_swapped n i j (i - w) (j - w) vs fetched mask v u and_not refl some at.0 at.1 e d f (λ b l. high_members n w i j b h (half_of n).1 c)

middle_needed : (n w i j : ℕ) → w ≤ n → IsCase n w i j Middle → (get_or (interval_needed n w i j) 0 0 ≡ j - w) × (get_or (interval_needed n w i j) 1 0 ≡ i)
middle_needed n w i j a c = (grind (arith, nat_tests), grind (arith, nat_tests))

middle_members : (n w i j b : ℕ) → i < j → IsCase n w i j Middle → and (nat_le (j - w) b && nat_lt b (j - w + w)) (nat_le i b && nat_lt b (i + w)) ≡ in_run i j b
middle_members n w i j b h c = grind (arith, nat_tests)

-- a run that needs two bitmaps and is none of the other cases
last_case : (n w i j : ℕ) (case : Case) → IsCase n w i j case → 2 ≤ length (interval_needed n w i j) → (case ≡ More → ⊥) → (case ≡ Low → ⊥) → (case ≡ High → ⊥) → IsCase n w i j Middle
last_case n w i j All c some a b d = absurd (grind (arith, nat_tests))
last_case n w i j Half c some a b d = absurd (grind (arith, nat_tests))
last_case n w i j More c some a b d = absurd (a refl)
last_case n w i j Low c some a b d = absurd (b refl)
last_case n w i j High c some a b d = absurd (d refl)
last_case n w i j Middle c some a b d = c

pub middle : (n i j : ℕ) (case : Case) (vs fetched : List (List Bool)) (mask v u : List Bool) → i < j → j ≤ n → 2 ≤ length (needed Interval n i j) → IsCase n (div_ceil n 2) i j case → (case ≡ More → ⊥) → (case ≡ Low → ⊥) → (case ≡ High → ⊥) → v ≡ get_or fetched 0 v → u ≡ get_or fetched 1 u → AreFetched Interval n i j vs fetched mask → each_place and v u ≡ union_of (length mask) (in_run i j) vs
middle n i j case vs fetched mask v u h k some is a b d e t f =
    let w = div_ceil n 2 in
    let c = last_case n w i j case is some a b d in
    let at = middle_needed n w i j (omega (arith, (half_of n).1)) c in
    two n i j (j - w) i vs fetched mask v u and refl some at.0 at.1 e t f (λ p l. middle_members n w i j p h c)
