-- What an encoding of bins answers.
use Rattle.std.specs.Prelude.{◌≡◌, ℕ, ◌<◌, ◌^◌, Option, Some, None, IsSome, List, map, Bool}
use Rattle.index_spec.specs.Counts.{bitmap_count, groups_of}
use Rattle.index_spec.specs.declared.spec.EncodingSpec.{EncodingSpec}
use Rattle.index_spec.specs.declared.spec.EncodingSpec.TheVariants.{Equality, Range, Interval, TwoLevel}
use Rattle.binning.specs.declared.gathering.Bin.{Bin}
use Rattle.binning.specs.declared.encodings.EncFault.{EncFault}
use Rattle.binning.specs.declared.encodings.EncFault.TheVariants.{TooManyBins, OutOfMemory}

-- the rows of each bin
abbrev pub vectors : List Bin → List (List Bool)
vectors bins = map (λ b. b.rows) bins

-- how many bins, or groups of bins, the nested bitmaps stand on
abbrev pub nested_bins : EncodingSpec → ℕ → ℕ
nested_bins Equality n = n
nested_bins Range n = n
nested_bins Interval n = n
nested_bins (TwoLevel level ncoarse) n = groups_of n ncoarse

-- how many levels of bitmaps an encoding has
abbrev pub levels : EncodingSpec → ℕ
levels Equality = 1
levels Range = 1
levels Interval = 1
levels (TwoLevel level ncoarse) = 2

-- there are bitmaps of so many bins, and fewer than 2^32
abbrev pub HasCount : Option ℕ → Type 0
HasCount None = ⊥
HasCount (Some count) = count < 2 ^ 32

-- A fault of `bitmaps` over n bins: too many are told exactly where no number of bitmaps is.
abbrev pub Tells : EncodingSpec → ℕ → EncFault → Type 0
Tells e n (TooManyBins bins limit) = (bitmap_count e n ≡ None) × (bins ≡ nested_bins e n) × (limit ≡ 1024)
Tells e n OutOfMemory = IsSome (bitmap_count e n)
