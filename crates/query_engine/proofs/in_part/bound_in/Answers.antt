use Rattle.std.proofs.Common.{◌≡◌, List, true, false, subst, arith}
use Rattle.fb_types.specs.declared.schemas.Column.{Column}
use Rattle.stages.specs.Answer.{is_free_in}
use Rattle.part_meaning.specs.Answers.{definite_in, possible_in}
use Rattle.query_engine.proofs.FaultLemmas.{stopped_column}
use Rattle.query_engine.proofs.PartLemmas.{listed_at, own_looks, own_reads, own_steps, row_limit}
use Rattle.query_engine.proofs.in_part.bound_in.Goals as goal

pub ask_fault-requires-clause-column : goal.ask_fault-requires-clause-column
ask_fault-requires-clause-column g c =
    let same = (listed_at c.args.dataset.now c.requires.listed.0 c.args.part.now c.requires.valid c.requires.listed.1).1 in
    stopped_column (g.S.Store.files c.args.store.now) c.args.dataset.now.dir c.args.dataset.now.schema c.args.part.now c.args.plan.now c.in-Err.fault
    c.requires.fits c.in-Err.ensures.stop

pub returns-in-Ok-clause-looks : goal.returns-in-Ok-clause-looks
returns-in-Ok-clause-looks g c =
    own_looks c.args.dataset.now c.requires.listed.0 c.args.part.now c.args.plan.now (g.S.Store.reads c.args.store.now)
    (g.S.Store.reads c.estimate.new.store) c.requires.valid c.requires.listed.1 c.estimate.ensures.looks

pub returns-in-Ok-clause-reads : goal.returns-in-Ok-clause-reads
returns-in-Ok-clause-reads g c p is =
    own_reads is_free_in c.args.dataset.now c.requires.listed.0 c.args.part.now p c.args.plan.now (g.S.Store.reads c.args.store.now)
    (g.S.Store.reads c.estimate.new.store) (true ≡ true) c.requires.valid c.requires.listed.1 (c.in-Ok.ensures.reads p is)

pub returns-in-Ok-clause-steps : goal.returns-in-Ok-clause-steps
returns-in-Ok-clause-steps g c p is =
    own_steps (g.S.Store.files c.args.store.now) c.args.dataset.now c.requires.listed.0 c.args.part.now p c.args.plan.now c.args.steps.now
    c.estimate.new.steps c.requires.valid c.requires.listed.1 is (c.in-Ok.ensures.steps p is)

pub returns-in-Err-clause-looks : goal.returns-in-Err-clause-looks
returns-in-Err-clause-looks g c =
    own_looks c.args.dataset.now c.requires.listed.0 c.args.part.now c.args.plan.now (g.S.Store.reads c.args.store.now)
    (g.S.Store.reads c.estimate.new.store) c.requires.valid c.requires.listed.1 c.estimate.ensures.looks

pub returns-in-Err-clause-reads : goal.returns-in-Err-clause-reads
returns-in-Err-clause-reads g c p is =
    own_reads is_free_in c.args.dataset.now c.requires.listed.0 c.args.part.now p c.args.plan.now (g.S.Store.reads c.args.store.now)
    (g.S.Store.reads c.estimate.new.store) (false ≡ true) c.requires.valid c.requires.listed.1 (c.in-Err.ensures.reads p is)

pub returns-in-Err-clause-steps : goal.returns-in-Err-clause-steps
returns-in-Err-clause-steps g c p is =
    own_steps (g.S.Store.files c.args.store.now) c.args.dataset.now c.requires.listed.0 c.args.part.now p c.args.plan.now c.args.steps.now
    c.estimate.new.steps c.requires.valid c.requires.listed.1 is (c.in-Err.ensures.steps p is)

pub returns-in-Ok-clause-definite : goal.returns-in-Ok-clause-definite
returns-in-Ok-clause-definite g c p is =
    let same = (listed_at c.args.dataset.now c.requires.listed.0 c.args.part.now c.requires.valid c.requires.listed.1).1 in
    subst (λ (schema : List Column). c.in-Ok.bounds.definite ≡ definite_in schema p c.args.plan.now) same (c.in-Ok.ensures.definite p is)

pub returns-in-Ok-clause-possible : goal.returns-in-Ok-clause-possible
returns-in-Ok-clause-possible g c p is =
    let same = (listed_at c.args.dataset.now c.requires.listed.0 c.args.part.now c.requires.valid c.requires.listed.1).1 in
    subst (λ (schema : List Column). c.in-Ok.bounds.possible ≡ possible_in schema p c.args.plan.now) same (c.in-Ok.ensures.possible p is)

pub returns-in-Ok-clause-few : goal.returns-in-Ok-clause-few
returns-in-Ok-clause-few g c =
    let limit = row_limit c.args.dataset.now c.requires.listed.0 c.args.part.now c.requires.valid c.requires.listed.1 in
    (omega (arith, c.in-Ok.ensures.few.0, limit), omega (arith, c.in-Ok.ensures.few.1, limit))
