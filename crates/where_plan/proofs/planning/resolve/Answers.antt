use Rattle.std.proofs.Common.{◌≡◌, subst}
use Rattle.std.specs.Prelude.{Some}
use Rattle.std.specs.Option.{option_copied}
use Rattle.where_plan.specs.Plans.{IsPlan}
use Rattle.where_plan.specs.Refusals.{refusal_of}
use Rattle.where_plan.proofs.PlanLemmas.{answers_plan_in, all_fits, answers_refusal_in, fits_given}
use Rattle.where_plan.proofs.planning.resolve.Goals as goal

pub returns-in-Some-clause-only : goal.returns-in-Some-clause-only
returns-in-Some-clause-only c = λ p is.
    answers_plan_in c.args.schema.now (Some c.in-Some.clause.now) c.planned.result p c.planned.ensures.found c.planned.ensures.refused
    (subst (λ o. IsPlan c.args.schema.now (option_copied o) p) c.in-Some.is is)

pub returns-in-Some-clause-refuses : goal.returns-in-Some-clause-refuses
returns-in-Some-clause-refuses c = λ kind e.
    answers_refusal_in c.args.schema.now (Some c.in-Some.clause.now) c.planned.result kind c.planned.ensures.found c.planned.ensures.refused
    (subst (λ o. refusal_of c.args.schema.now (option_copied o) ≡ Some kind) c.in-Some.is e)

pub returns-in-Some-clause-fits : goal.returns-in-Some-clause-fits
returns-in-Some-clause-fits c = fits_given c.args.schema.now (Some c.in-Some.clause.now) c.planned.result c.planned.ensures.found

pub returns-in-None-clause-fits : goal.returns-in-None-clause-fits
returns-in-None-clause-fits c = all_fits c.args.schema.now
