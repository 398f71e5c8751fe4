-- Bins in order of their values.
use Rattle.std.specs.Prelude.{suc, ◌<ℤ◌, ◌≤ℤ◌, ◌||◌, not, ℕ, ℤ, Bool, List, [], ◌∷◌, Option, None, Some, option_map, int_lt, if◌then◌else◌}
use Rattle.index_file.specs.declared.edge.Edge.{Edge}

-- the least value is above the greatest
abbrev pub is_turned : Edge → Bool
is_turned edge = int_lt edge.greatest edge.least

-- the same, or the least value isn't above the number
abbrev pub is_misplaced : ℤ → Edge → Bool
is_misplaced before edge = is_turned edge || not (int_lt before edge.least)

-- the number of the first bin that is turned, or not above the one before it
abbrev pub first_misplaced : ℤ → List Edge → Option ℕ
first_misplaced before [] = None
first_misplaced before (edge ∷ edges) = if is_misplaced before edge then Some 0 else option_map suc (first_misplaced edge.greatest edges)

-- the same, where nothing is before the first bin
abbrev pub first_out_of_order : List Edge → Option ℕ
first_out_of_order [] = None
first_out_of_order (edge ∷ edges) = if is_turned edge then Some 0 else option_map suc (first_misplaced edge.greatest edges)

-- in the values' own words: each bin has values, and they are above the number and above those of the bins before it
abbrev pub AreAbove : ℤ → List Edge → Type 0
AreAbove before [] = Unit {0}
AreAbove before (edge ∷ edges) = (before <ℤ edge.least) × (edge.least ≤ℤ edge.greatest) × AreAbove edge.greatest edges

abbrev pub AreInOrder : List Edge → Type 0
AreInOrder [] = Unit {0}
AreInOrder (edge ∷ edges) = (edge.least ≤ℤ edge.greatest) × AreAbove edge.greatest edges
