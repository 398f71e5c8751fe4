-- The bins of a column: one for each key that a value has, in rising order of key.
use Rattle.std.specs.Prelude.{Bool, true, false, List, [], ◌∷◌, Option, Some, None, map, filter, ℤ, pos, fold}
use Rattle.std.specs.Int.{int_min, int_max}
use Rattle.std.specs.List.{filter_map}
use Rattle.std.specs.Ordering.{int_eq}
use Rattle.binning.specs.Keys.{key, rising}
use Rattle.binning.specs.declared.rules.Keying.{Keying}
use Rattle.binning.specs.declared.gathering.Bin.{Bin}

-- ---- a column

-- the cells of a column, None where the mask is false
abbrev pub cells : List Bool → List ℤ → List (Option ℤ)
cells [] vs = []
cells (true ∷ mask) [] = []
cells (false ∷ mask) [] = []
cells (true ∷ mask) (v ∷ vs) = Some v ∷ cells mask vs
cells (false ∷ mask) (v ∷ vs) = None ∷ cells mask vs

-- the values that are there
abbrev pub present : List (Option ℤ) → List ℤ
present column = filter_map (λ cell. cell) column

-- ---- a bin

-- whether a cell has a value with this key
abbrev pub has_key : Keying → ℤ → Option ℤ → Bool
has_key keys k None = false
has_key keys k (Some v) = int_eq (key keys v) k

-- the rows whose value has this key
abbrev pub rows_with : Keying → ℤ → List (Option ℤ) → List Bool
rows_with keys k column = map (has_key keys k) column

-- the values with this key
abbrev pub values_with : Keying → ℤ → List (Option ℤ) → List ℤ
values_with keys k column = filter (λ v. int_eq (key keys v) k) (present column)

-- the least and the greatest of some numbers
abbrev pub least_of : List ℤ → ℤ
least_of [] = pos 0
least_of (v ∷ vs) = fold int_min v vs

abbrev pub greatest_of : List ℤ → ℤ
greatest_of [] = pos 0
greatest_of (v ∷ vs) = fold int_max v vs

abbrev pub bin_of : Keying → List (Option ℤ) → ℤ → Bin
bin_of keys column k = record {
  least = least_of (values_with keys k column);
  greatest = greatest_of (values_with keys k column);
  rows = rows_with keys k column;
}

-- ---- all bins

-- one bin for each key that a value of the column has, in rising order of key
abbrev pub bins_of : Keying → List (Option ℤ) → List Bin
bins_of keys column = map (bin_of keys column) (rising (map (key keys) (present column)))
