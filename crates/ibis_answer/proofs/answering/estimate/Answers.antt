use Rattle.std.proofs.Common.{refl}
use Rattle.std.proofs.lemmas.Result.{err_from_is_err_and}
use Rattle.query_engine.specs.Reads.{is_free_over}
use Rattle.stages.proofs.ListLemmas.{err_not_ok}
use Rattle.ibis_answer.specs.Answer.{between_in}
use Rattle.ibis_answer.proofs.GivesLemmas.{numbers_given, stop_given}
use Rattle.ibis_answer.proofs.LookLemmas.{answer_looks, asked_reads, opening_looks_of_answer, stopped_reads, wrong}
use Rattle.ibis_answer.proofs.WorldLemmas.{between_of_world, refused_of_world, steps_of_world, stopped_of_world}
use Rattle.ibis_answer.proofs.answering.estimate.Goals as goal

-- ---- what is asked is refused, or stopped

pub returns-in_err-asked-clause-bounded : goal.returns-in_err-asked-clause-bounded
returns-in_err-asked-clause-bounded g c =
    let given = err_from_is_err_and c.from_residual.result c.from_residual.ensures.1 in
    rw (given.1, given.2)
    (refused_of_world between_in c.args.dir.now c.args.query.now _ _ c.requires.path c.in_err-asked.ensures.asks)

pub returns-in_err-asked-clause-reads : goal.returns-in_err-asked-clause-reads
returns-in_err-asked-clause-reads g c = opening_looks_of_answer c.args.dir.now c.args.query.now _ _ c.asked.ensures.reads

pub returns-in_err-asked-clause-allowed : goal.returns-in_err-asked-clause-allowed
returns-in_err-asked-clause-allowed g c =
    stopped_reads is_free_over c.args.dir.now c.args.query.now _ _ _ _ (err_not_ok c.from_residual.result c.from_residual.ensures.0) c.asked.ensures.reads c.asked.ensures.listed

-- ---- the plan is answered

pub returns-in-Ok-clause-reads : goal.returns-in-Ok-clause-reads
returns-in-Ok-clause-reads g c =
    answer_looks c.args.dir.now c.args.query.now _ c.in_ok-asked.asked _ _ _ c.in_ok-asked.ensures.valid c.in_ok-asked.ensures.path
    c.in_ok-asked.ensures.asks c.asked.ensures.reads c.bounds.ensures.looks

pub returns-in-Ok-clause-gives : goal.returns-in-Ok-clause-gives
returns-in-Ok-clause-gives g c = numbers_given c.args.dir.now c.args.query.now _ c.in_ok-asked.asked c.in_ok-asked.ensures.asks _ _

pub returns-in-Ok-clause-bounded : goal.returns-in-Ok-clause-bounded
returns-in-Ok-clause-bounded g c =
    between_of_world c.args.dir.now c.args.query.now _ _ c.in_ok-asked.asked _ c.requires.path c.in_ok-asked.ensures.asks c.asked.ensures.files
    c.in-Ok.ensures.definite c.in-Ok.ensures.possible

pub returns-in-Ok-clause-allowed : goal.returns-in-Ok-clause-allowed
returns-in-Ok-clause-allowed g c =
    asked_reads is_free_over c.args.dir.now c.args.query.now _ _ c.in_ok-asked.asked _ _ _ _ _ (λ done. rw c.in-Ok.is refl) c.requires.path c.in_ok-asked.ensures.asks
    c.asked.ensures.files c.asked.ensures.listed c.bounds.ensures.reads

pub returns-in-Ok-clause-steps : goal.returns-in-Ok-clause-steps
returns-in-Ok-clause-steps g c =
    steps_of_world c.args.dir.now c.args.query.now _ _ c.in_ok-asked.asked _ _ c.requires.path c.in_ok-asked.ensures.asks c.asked.ensures.files
    c.bounds.ensures.steps

-- ---- it isn't

pub returns-clause-reads : goal.returns-clause-reads
returns-clause-reads g c =
    answer_looks c.args.dir.now c.args.query.now _ c.in_ok-asked.asked _ _ _ c.in_ok-asked.ensures.valid c.in_ok-asked.ensures.path
    c.in_ok-asked.ensures.asks c.asked.ensures.reads c.bounds.ensures.looks

pub returns-clause-gives : goal.returns-clause-gives
returns-clause-gives g c =
    rw c.stop_of_ask.ensures
    (stop_given c.args.dir.now c.args.query.now _ c.in_ok-asked.asked c.in_ok-asked.ensures.asks _ _ c.in-Err.fault c.asked.ensures.files c.in-Err.ensures.stop)

pub returns-clause-bounded : goal.returns-clause-bounded
returns-clause-bounded g c =
    rw c.stop_of_ask.ensures
    (stopped_of_world between_in c.args.dir.now c.args.query.now _ _ c.in_ok-asked.asked c.in-Err.fault c.requires.path c.in_ok-asked.ensures.asks
    c.asked.ensures.files c.in-Err.ensures.whole)

pub returns-clause-allowed : goal.returns-clause-allowed
returns-clause-allowed g c =
    asked_reads is_free_over c.args.dir.now c.args.query.now _ _ c.in_ok-asked.asked _ _ _ _ _ (λ done. wrong done) c.requires.path c.in_ok-asked.ensures.asks
    c.asked.ensures.files c.asked.ensures.listed c.bounds.ensures.reads

pub returns-clause-steps : goal.returns-clause-steps
returns-clause-steps g c =
    steps_of_world c.args.dir.now c.args.query.now _ _ c.in_ok-asked.asked _ _ c.requires.path c.in_ok-asked.ensures.asks c.asked.ensures.files
    c.bounds.ensures.steps
