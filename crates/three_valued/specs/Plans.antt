-- The three-valued answer of a plan, its truth, its conditions, and its size.
use Rattle.std.specs.Prelude.{◌≡◌, ℕ, ◌+◌, Bool, true, false, not, List, [], ◌∷◌, length, sum, All, if◌then◌else◌}
use Rattle.std.specs.List.{list_all, list_any}
use Rattle.binning.specs.declared.against_bins.Three.{Three}
use Rattle.binning.specs.declared.against_bins.Three.TheVariants.{Yes, No, Unknown}
use Rattle.where_grammar.specs.Holds.{odd_many}
use Rattle.where_plan.specs.declared.plan.PlanAtom.{PlanAtom}
use Rattle.where_plan.specs.declared.plan.Plan.{Plan}
use Rattle.where_plan.specs.declared.plan.Plan.TheOpen.{Plan-F}
use Rattle.where_plan.specs.declared.plan.Plan.TheFolds.{fold-Plan}
use Rattle.where_plan.specs.Plans.{atoms_of as conditions_of}
use Rattle.three_valued.specs.declared.connectives.Join.TheVariants as join
use Rattle.three_valued.specs.Tables.{decided, is_unknown, joined, three_not}

-- ---- the three-valued answer, from those of the conditions

abbrev pub three_by_parts : (PlanAtom → Three) → Plan-F Three → Three
three_by_parts answer Plan-F.All = Yes
three_by_parts answer (Plan-F.Or parts) = joined join.Or parts
three_by_parts answer (Plan-F.Xor parts) = joined join.Xor parts
three_by_parts answer (Plan-F.And parts) = joined join.And parts
three_by_parts answer (Plan-F.Not part) = three_not part
three_by_parts answer (Plan-F.One atom) = answer atom

unfoldable pub three : (PlanAtom → Three) → Plan → Three
three answer plan = fold-Plan Three (three_by_parts answer) plan

-- ---- the truth, from that of the conditions

abbrev pub truth_by_parts : (PlanAtom → Bool) → Plan-F Bool → Bool
truth_by_parts truth Plan-F.All = true
truth_by_parts truth (Plan-F.Or parts) = list_any (λ part. part) parts
truth_by_parts truth (Plan-F.Xor parts) = odd_many parts
truth_by_parts truth (Plan-F.And parts) = list_all (λ part. part) parts
truth_by_parts truth (Plan-F.Not part) = not part
truth_by_parts truth (Plan-F.One atom) = truth atom

unfoldable pub is_true : (PlanAtom → Bool) → Plan → Bool
is_true truth plan = fold-Plan Bool (truth_by_parts truth) plan

-- ---- the conditions, from left to right

unfoldable pub atoms_of : Plan → List PlanAtom
atoms_of plan = conditions_of plan

-- ---- the number of parts of each `or`, `xor`, `and` and `not`

abbrev pub parts_by_parts : Plan-F ℕ → ℕ
parts_by_parts Plan-F.All = 0
parts_by_parts (Plan-F.Or parts) = length parts + sum parts
parts_by_parts (Plan-F.Xor parts) = length parts + sum parts
parts_by_parts (Plan-F.And parts) = length parts + sum parts
parts_by_parts (Plan-F.Not part) = 1 + part
parts_by_parts (Plan-F.One atom) = 0

unfoldable pub parts_of : Plan → ℕ
parts_of plan = fold-Plan ℕ parts_by_parts plan

-- the number of these parts, and of those within them
unfoldable pub parts_in : List Plan → ℕ
parts_in [] = 0
parts_in (plan ∷ plans) = 1 + parts_of plan + parts_in plans

-- ---- answers and truths that agree

-- Yes says that it is true, and No that it isn't.
abbrev pub IsSound : Three → Bool → Type 0
IsSound Yes truth = truth ≡ true
IsSound No truth = truth ≡ false
IsSound Unknown truth = Unit {0}

-- each condition's answer does
abbrev pub AreSound : (PlanAtom → Three) → (PlanAtom → Bool) → List PlanAtom → Type 0
AreSound answer truth atoms = All (λ atom. IsSound (answer atom) (truth atom)) atoms

-- the truth of each condition is known
abbrev pub AreDecided : (PlanAtom → Three) → (PlanAtom → Bool) → List PlanAtom → Type 0
AreDecided answer truth atoms = All (λ atom. answer atom ≡ decided (truth atom)) atoms

-- each condition that is Unknown is decided by its truth
abbrev pub settled : (PlanAtom → Three) → (PlanAtom → Bool) → PlanAtom → Three
settled answer truth atom = if is_unknown (answer atom) then decided (truth atom) else answer atom
