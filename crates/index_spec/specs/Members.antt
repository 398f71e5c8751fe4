-- Which bins a bitmap has, and which bitmaps tell a run of neighbouring bins.
use Rattle.std.specs.Prelude.{ℕ, ◌+◌, ◌-◌, ◌*◌, ◌/◌, Bool, ◌&&◌, List, [], ◌∷◌, ◌++◌, map, min, unwrap_or, if◌then◌else◌, ◌==◌, nat_lt, nat_le}
use Rattle.std.specs.List.{range_with_len}
use Rattle.std.specs.Int.{div_ceil}
use Rattle.index_spec.specs.declared.spec.Coarse.{Coarse}
use Rattle.index_spec.specs.declared.spec.Coarse.TheVariants as coarse
use Rattle.index_spec.specs.declared.spec.EncodingSpec.{EncodingSpec}
use Rattle.index_spec.specs.declared.spec.EncodingSpec.TheVariants.{Equality, Range, Interval, TwoLevel}
use Rattle.index_spec.specs.Counts.{coarse_count, groups_of}

-- i to j - 1
abbrev pub from_to : ℕ → ℕ → List ℕ
from_to i j = range_with_len i (j - i)

-- ---- members

-- Whether bin b of n is in bitmap k of one level: bin k alone, bins 0 to k, or the half of the bins that begins at k.
abbrev pub coarse_member : Coarse → ℕ → ℕ → ℕ → Bool
coarse_member coarse.Equality n k b = b == k
coarse_member coarse.Range n k b = nat_le b k
coarse_member coarse.Interval n k b = nat_le k b && nat_lt b (k + div_ceil n 2)

-- the bitmaps of the coarse level, which stand before those of the bins
abbrev pub coarse_bitmaps : Coarse → ℕ → ℕ → ℕ
coarse_bitmaps level ncoarse n = unwrap_or (coarse_count level (groups_of n ncoarse)) 0

-- Group t has bins t * g to t * g + g - 1, where g is div_ceil n ncoarse: the group of bin b is b / g.
abbrev pub member : EncodingSpec → ℕ → ℕ → ℕ → Bool
member Equality n k b = coarse_member coarse.Equality n k b
member Range n k b = coarse_member coarse.Range n k b
member Interval n k b = coarse_member coarse.Interval n k b
member (TwoLevel level ncoarse) n k b = let q = coarse_bitmaps level ncoarse n in if nat_lt k q then coarse_member level (groups_of n ncoarse) k (b / div_ceil n ncoarse) else b == k - q

-- ---- needed bitmaps of the run of bins i to j - 1 of n, with i < j

-- of interval, where w is half of the bins
abbrev pub interval_needed : ℕ → ℕ → ℕ → ℕ → List ℕ
interval_needed n w i j = if j - i == n then [] else if j - i == w then i ∷ [] else if nat_lt w (j - i) then i ∷ (j - w) ∷ [] else if nat_lt j w then i ∷ j ∷ [] else if nat_lt (n - w) i then (i - w) ∷ (j - w) ∷ [] else (j - w) ∷ i ∷ []

-- of one level
abbrev pub coarse_needed : Coarse → ℕ → ℕ → ℕ → List ℕ
coarse_needed coarse.Equality n i j = if nat_le (2 * (j - i)) n then from_to i j else from_to 0 i ++ from_to j n
coarse_needed coarse.Range n i j = (if i == 0 then [] else (i - 1) ∷ []) ++ (if j == n then [] else (j - 1) ∷ [])
coarse_needed coarse.Interval n i j = interval_needed n (div_ceil n 2) i j

-- of two levels, with groups of g bins, where q coarse bitmaps stand first and the whole groups in the run are s to
-- e - 1 of c: those of these groups, and the bins of the run before and after them
abbrev pub grouped_needed : Coarse → ℕ → ℕ → ℕ → ℕ → ℕ → ℕ → ℕ → ℕ → List ℕ
grouped_needed level n g c q s e i j = if nat_lt s e then coarse_needed level c s e ++ map (λ b. q + b) (from_to i (s * g) ++ from_to (min (e * g) n) j) else map (λ b. q + b) (from_to i j)

abbrev pub two_level_needed : Coarse → ℕ → ℕ → ℕ → ℕ → List ℕ
two_level_needed level ncoarse n i j = let g = div_ceil n ncoarse in let c = groups_of n ncoarse in grouped_needed level n g c (coarse_bitmaps level ncoarse n) (div_ceil i g) (if j == n then c else j / g) i j

abbrev pub needed : EncodingSpec → ℕ → ℕ → ℕ → List ℕ
needed Equality n i j = coarse_needed coarse.Equality n i j
needed Range n i j = coarse_needed coarse.Range n i j
needed Interval n i j = coarse_needed coarse.Interval n i j
needed (TwoLevel level ncoarse) n i j = two_level_needed level ncoarse n i j

-- the most bitmaps that one level needs, of n bins
abbrev pub most_needed : Coarse → ℕ → ℕ
most_needed coarse.Equality n = n / 2
most_needed coarse.Range n = 2
most_needed coarse.Interval n = 2
