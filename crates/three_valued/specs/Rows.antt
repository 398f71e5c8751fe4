-- Answers row by row, and the vectors that keep them.
use Rattle.std.specs.Prelude.{◌≡◌, ℕ, ⊤, Bool, true, false, List, [], ◌∷◌, map, Option, Some, None}
use Rattle.std.specs.List.{range_with_len}
use Rattle.binning.specs.declared.against_bins.Three.{Three}
use Rattle.binning.specs.declared.against_bins.Three.TheVariants.{Yes, No, Unknown}
use Rattle.where_plan.specs.declared.plan.PlanAtom.{PlanAtom}

-- what is said of each row, from row 0 on
abbrev pub each_row : {X : Type 0} → ℕ → (ℕ → X) → List X
each_row rows said = map said (range_with_len 0 rows)

-- the answers of each of these conditions on each row
abbrev pub columns : ℕ → (ℕ → PlanAtom → Three) → List PlanAtom → List (List Three)
columns rows answer atoms = map (λ atom. each_row rows (λ row. answer row atom)) atoms

-- the answer of two, row by row
unfoldable pub rowwise : (Three → Three → Three) → List Three → List Three → List Three
rowwise table [] ys = []
rowwise table (x ∷ xs) [] = []
rowwise table (x ∷ xs) (y ∷ ys) = table x y ∷ rowwise table xs ys

-- ---- vectors

-- Yes where the first is true, else Unknown where the second is, else No
abbrev pub answer_of : Bool → Bool → Three
answer_of true possible = Yes
answer_of false true = Unknown
answer_of false false = No

unfoldable pub answers_of : List Bool → List Bool → List Three
answers_of [] ps = []
answers_of (d ∷ ds) [] = []
answers_of (d ∷ ds) (p ∷ ps) = answer_of d p ∷ answers_of ds ps

-- the rows that may be true: where no other vector is kept, those that are
abbrev pub possible_of : List Bool → Option (List Bool) → List Bool
possible_of definite None = definite
possible_of definite (Some possible) = possible

-- of one length, and each row that is true may be true
unfoldable pub AreBounds : List Bool → List Bool → Type 0
AreBounds [] [] = ⊤
AreBounds [] (p ∷ ps) = ⊥
AreBounds (d ∷ ds) [] = ⊥
AreBounds (d ∷ ds) (p ∷ ps) = (d ≡ true → p ≡ true) × AreBounds ds ps
