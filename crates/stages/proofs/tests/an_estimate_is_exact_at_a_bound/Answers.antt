use Rattle.std.proofs.Common.{◌<◌, sym, subst}
use Rattle.std.specs.List.{AllByRecursion}
use Rattle.where_plan.specs.Plans.{place_in}
use Rattle.three_valued.proofs.PlanLemmas.{atoms_of-all}
use Rattle.stages.proofs.tests.an_estimate_is_exact_at_a_bound.Goals as goal

pub numbers-requires-2-clause-fits : goal.numbers-requires-2-clause-fits
numbers-requires-2-clause-fits g c = subst (AllByRecursion (λ atom. place_in atom < 5)) (sym atoms_of-all) tt
