use Rattle.std.proofs.Common.{◌∙◌}
use Rattle.where_plan.specs.PlanHolds.{plan_holds}
use Rattle.where_plan.proofs.FoldLemmas.{all_mapped, any_mapped, plan_holds-all, plan_holds-and, plan_holds-not, plan_holds-one, plan_holds-or, plan_holds-xor}
use Rattle.where_plan.proofs.laws.the_truth_of_plan_parts.Goals as goal

pub returns-clause-all : goal.returns-clause-all
returns-clause-all c = plan_holds-all

pub returns-clause-one : goal.returns-clause-one
returns-clause-one c = λ condition cells. plan_holds-one cells condition

pub returns-clause-not : goal.returns-clause-not
returns-clause-not c = λ part cells. plan_holds-not cells part

pub returns-clause-or : goal.returns-clause-or
returns-clause-or c = λ parts cells. plan_holds-or cells parts ∙ any_mapped (λ part. plan_holds part cells) parts

pub returns-clause-and : goal.returns-clause-and
returns-clause-and c = λ parts cells. plan_holds-and cells parts ∙ all_mapped (λ part. plan_holds part cells) parts

pub returns-clause-xor : goal.returns-clause-xor
returns-clause-xor c = λ parts cells. plan_holds-xor cells parts
