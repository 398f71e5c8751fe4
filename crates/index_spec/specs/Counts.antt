-- How many bitmaps an encoding keeps.
use Rattle.std.specs.Prelude.{ℕ, ◌+◌, ◌-◌, ◌≤◌, Option, Some, None, if◌then◌else◌, ◌==◌, nat_lt}
use Rattle.std.specs.Option.{option_map}
use Rattle.std.specs.Int.{div_ceil}
use Rattle.index_spec.specs.declared.spec.Coarse.{Coarse}
use Rattle.index_spec.specs.declared.spec.Coarse.TheVariants as coarse
use Rattle.index_spec.specs.declared.spec.EncodingSpec.{EncodingSpec}
use Rattle.index_spec.specs.declared.spec.EncodingSpec.TheVariants.{Equality, Range, Interval, TwoLevel}

-- bitmaps of one level over n bins
abbrev pub coarse_count : Coarse → ℕ → Option ℕ
coarse_count coarse.Equality n = Some n
coarse_count coarse.Range n = if nat_lt 1024 n then None else (if n == 0 then Some 0 else Some (n - 1))
coarse_count coarse.Interval n = if nat_lt 1024 n then None else (if n == 0 then Some 0 else Some (n - div_ceil n 2 + 1))

-- n bins in groups of div_ceil n ncoarse
abbrev pub groups_of : ℕ → ℕ → ℕ
groups_of n ncoarse = div_ceil n (div_ceil n ncoarse)

abbrev pub bitmap_count : EncodingSpec → ℕ → Option ℕ
bitmap_count Equality n = coarse_count coarse.Equality n
bitmap_count Range n = coarse_count coarse.Range n
bitmap_count Interval n = coarse_count coarse.Interval n
bitmap_count (TwoLevel level ncoarse) n = if n == 0 then Some 0 else option_map (λ q. n + q) (coarse_count level (groups_of n ncoarse))

-- a two-level encoding has at least one group
abbrev pub HasGroups : EncodingSpec → Type 0
HasGroups Equality = Unit {0}
HasGroups Range = Unit {0}
HasGroups Interval = Unit {0}
HasGroups (TwoLevel level ncoarse) = 1 ≤ ncoarse
