-- A condition on the rows on which the plan is Unknown.
use Rattle.std.specs.Prelude.{Bool, List, map}
use Rattle.binning.specs.declared.against_bins.Three.{Three}
use Rattle.wah_logic.specs.Logic.{and, each_place, or}
use Rattle.where_plan.specs.declared.plan.PlanAtom.{PlanAtom}
use Rattle.three_valued.specs.Rows.{each_row}
use Rattle.three_valued.specs.Tables.{decided, is_unknown, is_yes}
use Rattle.stages.specs.Answer.{met_of}
use Rattle.stages.specs.Meaning.{Meaning}

-- the rows on which both are Unknown
abbrev pub candidates_in : List Three → List Bool → List Bool
candidates_in answers unknown = each_place and (map is_unknown answers) unknown

-- of the rows on which the plan is Unknown, those on which the condition is Yes, or is Unknown and true
abbrev pub exact_on : List Three → List Bool → List Bool → List Three
exact_on answers unknown truth =
    map decided (each_place or (each_place and (map is_yes answers) unknown) (each_place and (candidates_in answers unknown) truth))

-- ---- the same where the first stage's answers are those that are meant

abbrev pub settled_of : Meaning → PlanAtom → List Three
settled_of m atom = each_row m.rows (λ row. m.answer row atom)

abbrev pub candidates_of : Meaning → List Bool → PlanAtom → List Bool
candidates_of m unknown atom = candidates_in (settled_of m atom) unknown

abbrev pub exact_of : Meaning → List Bool → PlanAtom → List Three
exact_of m unknown atom = exact_on (settled_of m atom) unknown (met_of m atom)
