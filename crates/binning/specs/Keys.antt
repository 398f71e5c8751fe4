-- The key of a value, which decides its bin, and the keys that a binning says over the values of a column.
use Rattle.std.specs.Prelude.{ℕ, ◌+◌, ◌-◌, ◌*◌, ◌/◌, ◌%◌, ◌^◌, ◌≤◌, if◌then◌else◌, int_lt, List, [], ◌∷◌, length, map, slice_index_or, count_by, ℤ, pos, negsuc, neg_ℤ, ◌+ℤ◌, ◌<ℤ◌, ◌≤ℤ◌}
use Rattle.std.specs.List.{range_with_len}
use Rattle.std.specs.Int.{int_gap}
use Rattle.std.specs.Fmt.{decimal}
use Rattle.index_spec.specs.declared.spec.Binning.{Binning}
use Rattle.index_spec.specs.declared.spec.Binning.TheVariants as binning
use Rattle.binning.specs.Spans.{int_le}
use Rattle.binning.specs.declared.rules.Keying.{Keying}
use Rattle.binning.specs.declared.rules.Keying.TheVariants.{Each, Bounds, Digits}

-- ---- the key of a value

-- the number with all but its first d decimal digits replaced by 0
abbrev pub first_digits : ℕ → ℕ → ℕ
first_digits d n = n - n % 10 ^ (length (decimal n) - d)

-- the same with a sign, which is kept
abbrev pub leading : ℕ → ℤ → ℤ
leading d (pos n) = pos (first_digits d n)
leading d (negsuc n) = neg_ℤ (pos (first_digits d (n + 1)))

-- the value, how many bounds are at most the value, or its first digits
abbrev pub key : Keying → ℤ → ℤ
key Each v = v
key (Bounds bounds) v = pos (count_by (λ b. int_le b v) bounds)
key (Digits d) v = leading d v

-- ---- numbers in rising order, each once

-- a number put into a rising list that may have it
abbrev pub put : ℤ → List ℤ → List ℤ
put k [] = k ∷ []
put k (x ∷ xs) = if int_lt k x then k ∷ x ∷ xs else (if int_lt x k then x ∷ put k xs else x ∷ xs)

-- the numbers of a list in rising order, each once
abbrev pub rising : List ℤ → List ℤ
rising [] = []
rising (k ∷ ks) = put k (rising ks)

-- a number put into a list in order, before those that are not below it
abbrev pub placed : ℤ → List ℤ → List ℤ
placed v [] = v ∷ []
placed v (x ∷ xs) = if int_lt x v then x ∷ placed v xs else v ∷ x ∷ xs

-- the numbers of a list in order, each as often as the list has it
abbrev pub sorted : List ℤ → List ℤ
sorted [] = []
sorted (v ∷ vs) = placed v (sorted vs)

-- each number is below the next
abbrev pub Rises : List ℤ → Type 0
Rises [] = Unit {0}
Rises (x ∷ []) = Unit {0}
Rises (x ∷ y ∷ ys) = (x <ℤ y) × Rises (y ∷ ys)

-- each number is at most the next
abbrev pub Weak : List ℤ → Type 0
Weak [] = Unit {0}
Weak (x ∷ []) = Unit {0}
Weak (x ∷ y ∷ ys) = (x ≤ℤ y) × Weak (y ∷ ys)

-- ---- the keys that a binning says

-- the bounds 0 to count of equal widths from start to end, cut down to whole numbers
abbrev pub width_bounds : ℤ → ℤ → ℕ → List ℤ
width_bounds start end count =
    map (λ j. start +ℤ pos (j * int_gap start end / count)) (range_with_len 0 (count + 1))

-- the values at `count - 1` places of a sorted list, which cut it into parts of about one length
abbrev pub weight_bounds : ℕ → List ℤ → List ℤ
weight_bounds count [] = []
weight_bounds count (v ∷ vs) =
    map (λ j. slice_index_or (v ∷ vs) (j * length (v ∷ vs) / count) (pos 0)) (range_with_len 1 (count - 1))

-- the keys that a binning says over the values of a column that are there; repeated bounds are dropped
abbrev pub keying_of : Binning → List ℤ → Keying
keying_of binning.Each vs = Each
keying_of (binning.Bounds bounds) vs = Bounds bounds
keying_of (binning.Width start end count) vs = Bounds (rising (width_bounds start end count))
keying_of (binning.Weight count) vs = Bounds (rising (weight_bounds count (sorted vs)))
keying_of (binning.Precision digits) vs = Digits digits

-- what is kept of each rule: bounds rise, and digits are few
abbrev pub IsKeying : Keying → Type 0
IsKeying Each = Unit {0}
IsKeying (Bounds bounds) = Rises bounds
IsKeying (Digits d) = (1 ≤ d) × (d ≤ 18)
