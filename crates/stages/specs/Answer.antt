-- The answer of a plan over a partition, what it reads, and its steps.
use Rattle.std.specs.Prelude.{◌≡◌, ℕ, ◌+◌, ◌*◌, ◌<◌, Bool, true, false, ◌||◌, List, get_or, sum_by}
use Rattle.std.specs.List.{flat_map, list_any}
use Rattle.binning.specs.declared.against_bins.Three.TheVariants.{Unknown}
use Rattle.fb_outside.specs.Reads.{Look}
use Rattle.where_plan.specs.declared.plan.PlanAtom.{PlanAtom}
use Rattle.where_plan.specs.declared.plan.Plan.{Plan}
use Rattle.three_valued.specs.Plans.{atoms_of, is_true, parts_of}
use Rattle.three_valued.specs.Rows.{each_row}
use Rattle.three_valued.specs.Candidates.{candidates}
use Rattle.stages.specs.Meaning.{Meaning}

-- ---- rows

-- on each row, whether the plan is true there
abbrev pub true_of : Meaning → Plan → List Bool
true_of m plan = each_row m.rows (λ row. is_true (m.truth row) plan)

-- the same of a condition
abbrev pub met_of : Meaning → PlanAtom → List Bool
met_of m atom = each_row m.rows (λ row. m.truth row atom)

-- on each of these rows the condition is Unknown
abbrev pub AreUnknown : Meaning → PlanAtom → List Bool → Type 0
AreUnknown m atom rows = (row : ℕ) → row < m.rows → get_or rows row false ≡ true → m.answer row atom ≡ Unknown

-- ---- reads

-- of a file of the condition's column: one that has no values, or of values on these rows
abbrev pub is_allowed_on : Meaning → PlanAtom → List ℕ → Look → Bool
is_allowed_on m atom rows look = m.is_free atom look || m.covers atom rows look

-- for some condition of the plan, of its column's files that have no values
abbrev pub is_free_in : Meaning → Plan → Look → Bool
is_free_in m plan look = list_any (λ atom. m.is_free atom look) (atoms_of plan)

-- for some condition of the plan, of these files or of values on its candidates
abbrev pub is_allowed_in : Meaning → Plan → Look → Bool
is_allowed_in m plan look = list_any (λ atom. is_allowed_on m atom (candidates m.rows m.answer plan atom) look) (atoms_of plan)

-- the bitmaps of each condition, from left to right
abbrev pub bitmaps_in : Meaning → Plan → List Look
bitmaps_in m plan = flat_map m.fetched (atoms_of plan)

-- ---- steps

-- How many times the steps for all rows of two vectors it takes at most: each part of a connective and each condition has
-- a share.
abbrev pub work_in : Meaning → Plan → ℕ
work_in m plan = 8 + 16 * parts_of plan + sum_by (λ atom. m.work atom + 8) (atoms_of plan)
