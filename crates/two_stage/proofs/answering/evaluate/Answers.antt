use Rattle.std.proofs.Common.{◌∙◌}
use Rattle.std.proofs.lemmas.Result.{IfErr-weaker, IfOk-weaker}
use Rattle.part_meaning.specs.Meaning.{meaning_of}
use Rattle.two_stage.proofs.PartLemmas.{all_fit, as_means, part_steps, rows_are, checked_is}
use Rattle.two_stage.proofs.answering.evaluate.Goals as goal

pub evaluate-requires : goal.evaluate-requires
evaluate-requires g c = all_fit c.args.conditions.now.meta.schema c.args.plan.now c.requires

pub returns-clause-whole : goal.returns-clause-whole
returns-clause-whole g c =
    IfErr-weaker c.evaluate.result _ _ (λ fault h p at. h (meaning_of c.args.conditions.now.dir c.args.conditions.now.meta.schema p) (as_means _ c.args.conditions.now.dir c.args.conditions.now.meta p at))
    c.evaluate.ensures.whole

pub returns-clause-reads : goal.returns-clause-reads
returns-clause-reads g c = λ p at.
    c.evaluate.ensures.reads (meaning_of c.args.conditions.now.dir c.args.conditions.now.meta.schema p) (as_means _ c.args.conditions.now.dir c.args.conditions.now.meta p at)

pub returns-clause-steps : goal.returns-clause-steps
returns-clause-steps g c = λ p at.
    part_steps _ c.args.conditions.now.dir c.args.conditions.now.meta p c.args.plan.now _ _ at
    (c.evaluate.ensures.steps (meaning_of c.args.conditions.now.dir c.args.conditions.now.meta.schema p) (as_means _ c.args.conditions.now.dir c.args.conditions.now.meta p at))

pub returns-clause-rows : goal.returns-clause-rows
returns-clause-rows g c =
    IfOk-weaker c.evaluate.result _ _
    (λ found h p at. h (meaning_of c.args.conditions.now.dir c.args.conditions.now.meta.schema p) (as_means _ c.args.conditions.now.dir c.args.conditions.now.meta p at)
    ∙ rows_are c.args.conditions.now.dir c.args.conditions.now.meta.schema p c.args.plan.now) c.evaluate.ensures.rows

pub returns-clause-checked : goal.returns-clause-checked
returns-clause-checked g c =
    IfOk-weaker c.evaluate.result _ _
    (λ found h p at. h (meaning_of c.args.conditions.now.dir c.args.conditions.now.meta.schema p) (as_means _ c.args.conditions.now.dir c.args.conditions.now.meta p at)
    ∙ checked_is c.args.conditions.now.dir c.args.conditions.now.meta.schema p c.args.plan.now) c.evaluate.ensures.checked
