-- Listed rows: their values in order, and the groups that they stand for.
use Rattle.std.specs.Prelude.{◌≡◌, ℕ, suc, ◌+◌, if◌then◌else◌, List, [], ◌∷◌, ◌++◌, map, filter, Option, Some, None, ℤ}
use Rattle.std.specs.Ordering.{int_eq}
use Rattle.wah_iter.specs.Rows.{rows_of}
use Rattle.binning.specs.Keys.{rising, Weak}
use Rattle.binning.specs.Bins.{present, rows_with}
use Rattle.binning.specs.Gathered.{Held, is_in, group_of, place_of}
use Rattle.binning.specs.declared.rules.Keying.TheVariants.{Each}
use Rattle.binning.specs.declared.listed.RowValue.{RowValue}

-- the value of a row's cell, where there is one
abbrev pub values_at : ℕ → Option ℤ → List RowValue
values_at row None = []
values_at row (Some v) = record { value = v; row = row } ∷ []

-- the values of a column's cells, the first of which has this row
abbrev pub row_values : ℕ → List (Option ℤ) → List RowValue
row_values row [] = []
row_values row (c ∷ column) = values_at row c ++ row_values (row + 1) column

abbrev pub values_in : List RowValue → List ℤ
values_in pairs = map (λ p. p.value) pairs

-- the rows with a value
abbrev pub rows_having : ℤ → List RowValue → List ℕ
rows_having v pairs = map (λ p. p.row) (filter (λ p. int_eq p.value v) pairs)

-- how many pairs at the front have the value
abbrev pub run_length : ℤ → List RowValue → ℕ
run_length v [] = 0
run_length v (p ∷ pairs) = if int_eq p.value v then suc (run_length v pairs) else 0

-- how many have that of the first
abbrev pub run_of_first : List RowValue → ℕ
run_of_first [] = 0
run_of_first (p ∷ pairs) = run_length p.value (p ∷ pairs)

-- A column's values in order, those of one value in order of row.
pub record InOrder (column : List (Option ℤ)) (pairs : List RowValue) : Type 0 where
  pub weak : Weak (values_in pairs)
  pub values : (v : ℤ) → is_in v (values_in pairs) ≡ is_in v (present column)
  pub rows : (v : ℤ) → rows_having v pairs ≡ rows_of (rows_with Each v column)

-- the groups that a column's rows stand for where each value is its own key: one for each value, in rising order
abbrev pub held_of : List (Option ℤ) → Held
held_of column = record {
  rule = Each;
  groups = map (group_of Each column) (rising (present column));
  places = map (place_of Each (rising (present column))) column;
}
