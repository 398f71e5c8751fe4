use Rattle.where_plan.proofs.PlanOfLemmas.{bytes_planned, has_plan, is_plan_of}
use Rattle.where_plan.proofs.laws.the_plan_of_a_clause.Goals as goal

pub returns-clause-only : goal.returns-clause-only
returns-clause-only c = is_plan_of

pub returns-clause-found : goal.returns-clause-found
returns-clause-found c = has_plan

pub returns-clause-on_bytes : goal.returns-clause-on_bytes
returns-clause-on_bytes c = bytes_planned
