-- Which rows a bitmap has: bins are lists of truth values, a set of bins is a test of their numbers.
use Rattle.std.specs.Prelude.{◌≡◌, ℕ, suc, Bool, true, false, if◌then◌else◌, ◌&&◌, nat_le, nat_lt, List, [], ◌∷◌, length, map, All, slice_index_or, unwrap_or}
use Rattle.wah_logic.specs.Logic.{union}
use Rattle.index_spec.specs.Counts.{bitmap_count}
use Rattle.index_spec.specs.Members.{member, needed, from_to}
use Rattle.index_spec.specs.declared.spec.EncodingSpec.{EncodingSpec}

-- the bins whose numbers are in the set
abbrev pub chosen : (ℕ → Bool) → List (List Bool) → List (List Bool)
chosen set [] = []
chosen set (v ∷ vs) = if set 0 then v ∷ chosen (λ b. set (suc b)) vs else chosen (λ b. set (suc b)) vs

-- the rows of the bins in the set
abbrev pub union_of : ℕ → (ℕ → Bool) → List (List Bool) → List Bool
union_of len set bins = union len (chosen set bins)

-- the bins from the i-th to the one before the j-th
abbrev pub in_run : ℕ → ℕ → ℕ → Bool
in_run i j b = nat_le i b && nat_lt b j

-- The bins of a column of so many rows: no row is in two of them.
pub record AreBins (len : ℕ) (bins : List (List Bool)) : Type 0 where
  pub long : All (λ v. length v ≡ len) bins
  pub apart : (a b row : ℕ) → slice_index_or (slice_index_or bins a []) row false ≡ true → slice_index_or (slice_index_or bins b []) row false ≡ true → a ≡ b

-- bitmap k of these bins
abbrev pub bitmap : EncodingSpec → ℕ → List (List Bool) → ℕ → List Bool
bitmap e len bins k = union_of len (member e (length bins) k) bins

-- all bitmaps of these bins
abbrev pub bitmaps_of : EncodingSpec → ℕ → List (List Bool) → List (List Bool)
bitmaps_of e len bins = map (bitmap e len bins) (from_to 0 (unwrap_or (bitmap_count e (length bins)) 0))

-- What is read for a run of n bins: the bitmaps that are needed, of these bins, and the union of all as the mask.
pub record AreFetched (e : EncodingSpec) (n i j : ℕ) (bins fetched : List (List Bool)) (mask : List Bool) : Type 0 where
  pub number : length bins ≡ n
  pub bins_apart : AreBins (length mask) bins
  pub all : mask ≡ union (length mask) bins
  pub bitmaps : fetched ≡ map (bitmap e (length mask) bins) (needed e n i j)
