-- The records of a part that a plan holds of, the bounds of their number, and the candidates.
use Rattle.std.specs.Prelude.{ℕ, Bool, List, length, map}
use Rattle.fb_types.specs.declared.schemas.Column.{Column}
use Rattle.three_valued.specs.Candidates.{checked, definite_rows, possible_rows}
use Rattle.where_plan.specs.PlanHolds.{plan_holds}
use Rattle.where_plan.specs.declared.plan.Plan.{Plan}
use Rattle.world.specs.World.{Partition}
use Rattle.part_meaning.specs.Parts.{known_in}

-- on each record, whether the plan holds of it
abbrev pub rows_that_hold : Plan → Partition → List Bool
rows_that_hold plan part = map (plan_holds plan) part.records

-- on how many rows the plan surely holds, and on how many it may
unfoldable pub definite_in : List Column → Partition → Plan → ℕ
definite_in schema part plan = definite_rows (length part.records) (known_in schema part) plan

unfoldable pub possible_in : List Column → Partition → Plan → ℕ
possible_in schema part plan = possible_rows (length part.records) (known_in schema part) plan

-- how many pairs of a condition, at its place, and a candidate of it there are
unfoldable pub checked_in : List Column → Partition → Plan → ℕ
checked_in schema part plan = checked (length part.records) (known_in schema part) plan
