use Rattle.std.proofs.Common.{take}
use Rattle.where_plan.specs.Plans.{ArePlans}
use Rattle.where_plan.proofs.planning.+planning.Given as goal

abbrev pub invariant-planned_parts-loop-part : goal.invariant-planned_parts-loop-part
invariant-planned_parts-loop-part l = ArePlans l.schema (take l.part-index l.parts) l.plans
