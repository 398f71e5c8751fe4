use Rattle.std.proofs.Common.{◌∙◌}
use Rattle.std.proofs.lemmas.Result.{IfErr-weaker, IfOk-weaker}
use Rattle.part_meaning.specs.Meaning.{meaning_of}
use Rattle.two_stage.proofs.PartLemmas.{all_fit, as_means, part_steps, definite_is, possible_is}
use Rattle.two_stage.proofs.answering.estimate.Goals as goal

pub estimate-requires : goal.estimate-requires
estimate-requires g c = all_fit c.args.conditions.now.meta.schema c.args.plan.now c.requires

pub returns-clause-whole : goal.returns-clause-whole
returns-clause-whole g c =
    IfErr-weaker c.estimate.result _ _ (λ fault h p at. h (meaning_of c.args.conditions.now.dir c.args.conditions.now.meta.schema p) (as_means _ c.args.conditions.now.dir c.args.conditions.now.meta p at))
    c.estimate.ensures.whole

pub returns-clause-reads : goal.returns-clause-reads
returns-clause-reads g c = λ p at.
    c.estimate.ensures.reads (meaning_of c.args.conditions.now.dir c.args.conditions.now.meta.schema p) (as_means _ c.args.conditions.now.dir c.args.conditions.now.meta p at)

pub returns-clause-steps : goal.returns-clause-steps
returns-clause-steps g c = λ p at.
    part_steps _ c.args.conditions.now.dir c.args.conditions.now.meta p c.args.plan.now _ _ at
    (c.estimate.ensures.steps (meaning_of c.args.conditions.now.dir c.args.conditions.now.meta.schema p) (as_means _ c.args.conditions.now.dir c.args.conditions.now.meta p at))

pub returns-clause-definite : goal.returns-clause-definite
returns-clause-definite g c =
    IfOk-weaker c.estimate.result _ _
    (λ found h p at. h (meaning_of c.args.conditions.now.dir c.args.conditions.now.meta.schema p) (as_means _ c.args.conditions.now.dir c.args.conditions.now.meta p at)
    ∙ definite_is c.args.conditions.now.dir c.args.conditions.now.meta.schema p c.args.plan.now) c.estimate.ensures.definite

pub returns-clause-possible : goal.returns-clause-possible
returns-clause-possible g c =
    IfOk-weaker c.estimate.result _ _
    (λ found h p at. h (meaning_of c.args.conditions.now.dir c.args.conditions.now.meta.schema p) (as_means _ c.args.conditions.now.dir c.args.conditions.now.meta p at)
    ∙ possible_is c.args.conditions.now.dir c.args.conditions.now.meta.schema p c.args.plan.now) c.estimate.ensures.possible
