-- The rows of a vector, the places of its true values in rising order, and their maximal runs.
use Rattle.std.specs.Prelude.{ℕ, ◌+◌, ◌-◌, ◌<◌, ⊤, Bool, true, false, List, [], ◌∷◌, ◌==◌, if◌then◌else◌}
use Rattle.std.specs.List.{flat_map, range_with_len}

-- the same where the first value is at this place
unfoldable pub rows_from : ℕ → List Bool → List ℕ
rows_from place [] = []
rows_from place (true ∷ v) = place ∷ rows_from (place + 1) v
rows_from place (false ∷ v) = rows_from (place + 1) v

abbrev pub rows_of : List Bool → List ℕ
rows_of v = rows_from 0 v

-- ---- runs of rows, each as its first row and the one past its last

-- the rows from the first up to but not with `past`, put before runs of later rows: they are one run with a run that begins at `past`
abbrev pub before : ℕ → ℕ → List (ℕ × ℕ) → List (ℕ × ℕ)
before first past [] = (first, past) ∷ []
before first past (r ∷ rs) = if past == r.0 then (first, r.1) ∷ rs else (first, past) ∷ r ∷ rs

-- the runs of a list whose first value is at this place, put before runs of later rows
unfoldable pub runs_from : ℕ → List Bool → List (ℕ × ℕ) → List (ℕ × ℕ)
runs_from place [] rs = rs
runs_from place (true ∷ v) rs = before place (place + 1) (runs_from (place + 1) v rs)
runs_from place (false ∷ v) rs = runs_from (place + 1) v rs

abbrev pub runs_of : List Bool → List (ℕ × ℕ)
runs_of v = runs_from 0 v []

-- the rows of runs, one run after another
abbrev pub rows_in : List (ℕ × ℕ) → List ℕ
rows_in rs = flat_map (λ r. range_with_len r.0 (r.1 - r.0)) rs

-- runs of one row at least, with a row between each and the next, so that none can be longer
unfoldable pub AreApart : List (ℕ × ℕ) → Type 0
AreApart [] = ⊤
AreApart (r ∷ []) = r.0 < r.1
AreApart (r ∷ s ∷ rs) = (r.0 < r.1) × (r.1 < s.0) × AreApart (s ∷ rs)
