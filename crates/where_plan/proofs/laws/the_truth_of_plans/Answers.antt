use Rattle.where_plan.proofs.PlanLemmas.{front_truth, whole_truth}
use Rattle.where_plan.proofs.laws.the_truth_of_plans.Goals as goal

pub returns-clause-whole : goal.returns-clause-whole
returns-clause-whole c = whole_truth

pub returns-clause-front : goal.returns-clause-front
returns-clause-front c = front_truth
