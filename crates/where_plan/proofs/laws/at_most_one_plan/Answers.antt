use Rattle.where_plan.proofs.PlanLemmas.{one_plan}
use Rattle.where_plan.proofs.laws.at_most_one_plan.Goals as goal

pub returns : goal.returns
returns c = one_plan
