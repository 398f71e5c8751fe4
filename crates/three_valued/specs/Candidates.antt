-- How many rows a plan can have, and the rows on which its conditions are decided by values.
use Rattle.std.specs.Prelude.{ℕ, Bool, ◌&&◌, List, length, count_by, filter, sum_by}
use Rattle.std.specs.List.{range_with_len}
use Rattle.binning.specs.declared.against_bins.Three.{Three}
use Rattle.where_plan.specs.declared.plan.PlanAtom.{PlanAtom}
use Rattle.where_plan.specs.declared.plan.Plan.{Plan}
use Rattle.three_valued.specs.Tables.{is_yes, is_possible, is_unknown}
use Rattle.three_valued.specs.Plans.{three, is_true, atoms_of}

-- the number of rows on which the answer is Yes
abbrev pub definite_rows : ℕ → (ℕ → PlanAtom → Three) → Plan → ℕ
definite_rows rows answer plan = count_by (λ row. is_yes (three (answer row) plan)) (range_with_len 0 rows)

-- the number of rows on which it isn't No
abbrev pub possible_rows : ℕ → (ℕ → PlanAtom → Three) → Plan → ℕ
possible_rows rows answer plan = count_by (λ row. is_possible (three (answer row) plan)) (range_with_len 0 rows)

-- the number of rows on which the plan is true
abbrev pub true_rows : ℕ → (ℕ → PlanAtom → Bool) → Plan → ℕ
true_rows rows truth plan = count_by (λ row. is_true (truth row) plan) (range_with_len 0 rows)

-- both the condition and the whole plan are Unknown
abbrev pub is_candidate : (PlanAtom → Three) → Plan → PlanAtom → Bool
is_candidate answer plan atom = is_unknown (answer atom) && is_unknown (three answer plan)

-- the rows on which they are, rising
abbrev pub candidates : ℕ → (ℕ → PlanAtom → Three) → Plan → PlanAtom → List ℕ
candidates rows answer plan atom = filter (λ row. is_candidate (answer row) plan atom) (range_with_len 0 rows)

-- the number of pairs of a condition, at its place in the plan, and a candidate of it
abbrev pub checked : ℕ → (ℕ → PlanAtom → Three) → Plan → ℕ
checked rows answer plan = sum_by (λ atom. length (candidates rows answer plan atom)) (atoms_of plan)
