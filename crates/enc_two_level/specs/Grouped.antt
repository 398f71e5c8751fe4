-- Groups of neighbouring bins as bins.
use Rattle.std.specs.Prelude.{ℕ, ◌/◌, ◌==◌, Bool, List, map}
use Rattle.std.specs.List.{range_with_len}
use Rattle.binning.specs.Members.{union_of}

-- the rows of the first c groups, each of g bins
abbrev pub group_rows : ℕ → ℕ → List (List Bool) → ℕ → List (List Bool)
group_rows rows g bins c = map (λ t. union_of rows (λ b. b / g == t) bins) (range_with_len 0 c)
