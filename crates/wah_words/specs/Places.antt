-- Lists of truth values as numbers. The first value is the highest place.
use Rattle.std.specs.Prelude.{ℕ, zero, suc, ◌+◌, ◌/◌, ◌%◌, ◌^◌, Bool, List, [], ◌∷◌, length, ◌==◌, if◌then◌else◌}

-- the low c places of n, from place c - 1 down to place 0
unfoldable pub places : ℕ → ℕ → List Bool
places zero n = []
places (suc c) n = (n / 2 ^ c % 2 == 1) ∷ places c n

-- the number whose places the values are
abbrev pub number : List Bool → ℕ
number [] = 0
number (b ∷ v) = (if b then 2 ^ length v else 0) + number v
