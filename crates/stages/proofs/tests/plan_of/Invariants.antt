use Rattle.std.proofs.Common.{◌<◌}
use Rattle.std.specs.List.{AllByRecursion, flat_map}
use Rattle.where_plan.specs.Plans.{place_in}
use Rattle.three_valued.specs.Plans.{atoms_of}
use Rattle.stages.proofs.tests.plan_of.Given as goal

abbrev pub invariant-loop-col : goal.invariant-loop-col
invariant-loop-col l = AllByRecursion (λ atom. place_in atom < 5) (flat_map atoms_of l.parts)
