-- The ranges of bins: disjoint and in rising order, from a value of the column to a value.
use Rattle.std.specs.Prelude.{◌≡◌, true, ⊤, List, [], ◌∷◌, Option, ℤ, ◌≤ℤ◌, ◌<ℤ◌}
use Rattle.binning.specs.Bins.{values_with, bin_of}
use Rattle.binning.specs.Gathered.{is_in}
use Rattle.binning.specs.declared.rules.Keying.{Keying}
use Rattle.binning.specs.declared.gathering.Bin.{Bin}

-- each bin's least is at most its greatest, and this is below the next bin's least
abbrev pub BinsRise : List Bin → Type 0
BinsRise [] = ⊤
BinsRise (b ∷ []) = b.least ≤ℤ b.greatest
BinsRise (b ∷ c ∷ bins) = (b.least ≤ℤ b.greatest) × (b.greatest <ℤ c.least) × BinsRise (c ∷ bins)

-- the least and the greatest of the bin of a key are values of the column with this key
abbrev pub HasEndsOf : Keying → List (Option ℤ) → ℤ → Type 0
HasEndsOf keys column k =
    (is_in (bin_of keys column k).least (values_with keys k column) ≡ true)
    × (is_in (bin_of keys column k).greatest (values_with keys k column) ≡ true)
