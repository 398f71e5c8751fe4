use Rattle.std.proofs.Common.{◌≡◌, List, true, false, subst}
use Rattle.fb_types.specs.declared.schemas.Column.{Column}
use Rattle.stages.specs.Answer.{is_allowed_in}
use Rattle.part_meaning.specs.Answers.{checked_in}
use Rattle.query_engine.proofs.FaultLemmas.{stopped_column}
use Rattle.query_engine.proofs.PartLemmas.{listed_at, own_looks, own_reads, own_steps, row_limit}
use Rattle.query_engine.proofs.in_part.choose_in.Goals as goal

pub ask_fault-requires-clause-column : goal.ask_fault-requires-clause-column
ask_fault-requires-clause-column g c =
    let same = (listed_at c.args.dataset.now c.requires.listed.0 c.args.part.now c.requires.valid c.requires.listed.1).1 in
    stopped_column (g.S.Store.files c.args.store.now) c.args.dataset.now.dir c.args.dataset.now.schema c.args.part.now c.args.plan.now c.in-Err.fault
    c.requires.fits c.in-Err.ensures.stop

pub returns-in-Ok-clause-looks : goal.returns-in-Ok-clause-looks
returns-in-Ok-clause-looks g c =
    own_looks c.args.dataset.now c.requires.listed.0 c.args.part.now c.args.plan.now (g.S.Store.reads c.args.store.now)
    (g.S.Store.reads c.evaluate.new.store) c.requires.valid c.requires.listed.1 c.evaluate.ensures.looks

pub returns-in-Ok-clause-reads : goal.returns-in-Ok-clause-reads
returns-in-Ok-clause-reads g c p is =
    own_reads is_allowed_in c.args.dataset.now c.requires.listed.0 c.args.part.now p c.args.plan.now (g.S.Store.reads c.args.store.now)
    (g.S.Store.reads c.evaluate.new.store) (true ≡ true) c.requires.valid c.requires.listed.1 (c.in-Ok.ensures.reads p is)

pub returns-in-Ok-clause-steps : goal.returns-in-Ok-clause-steps
returns-in-Ok-clause-steps g c p is =
    own_steps (g.S.Store.files c.args.store.now) c.args.dataset.now c.requires.listed.0 c.args.part.now p c.args.plan.now c.args.steps.now
    c.evaluate.new.steps c.requires.valid c.requires.listed.1 is (c.in-Ok.ensures.steps p is)

pub returns-in-Err-clause-looks : goal.returns-in-Err-clause-looks
returns-in-Err-clause-looks g c =
    own_looks c.args.dataset.now c.requires.listed.0 c.args.part.now c.args.plan.now (g.S.Store.reads c.args.store.now)
    (g.S.Store.reads c.evaluate.new.store) c.requires.valid c.requires.listed.1 c.evaluate.ensures.looks

pub returns-in-Err-clause-reads : goal.returns-in-Err-clause-reads
returns-in-Err-clause-reads g c p is =
    own_reads is_allowed_in c.args.dataset.now c.requires.listed.0 c.args.part.now p c.args.plan.now (g.S.Store.reads c.args.store.now)
    (g.S.Store.reads c.evaluate.new.store) (false ≡ true) c.requires.valid c.requires.listed.1 (c.in-Err.ensures.reads p is)

pub returns-in-Err-clause-steps : goal.returns-in-Err-clause-steps
returns-in-Err-clause-steps g c p is =
    own_steps (g.S.Store.files c.args.store.now) c.args.dataset.now c.requires.listed.0 c.args.part.now p c.args.plan.now c.args.steps.now
    c.evaluate.new.steps c.requires.valid c.requires.listed.1 is (c.in-Err.ensures.steps p is)

pub returns-in-Ok-clause-checked : goal.returns-in-Ok-clause-checked
returns-in-Ok-clause-checked g c p is =
    let same = (listed_at c.args.dataset.now c.requires.listed.0 c.args.part.now c.requires.valid c.requires.listed.1).1 in
    subst (λ (schema : List Column). c.in-Ok.hits.checked ≡ checked_in schema p c.args.plan.now) same (c.in-Ok.ensures.checked p is)

pub returns-in-Ok-clause-limit : goal.returns-in-Ok-clause-limit
returns-in-Ok-clause-limit g c = row_limit c.args.dataset.now c.requires.listed.0 c.args.part.now c.requires.valid c.requires.listed.1

pub returns-in-Err-clause-limit : goal.returns-in-Err-clause-limit
returns-in-Err-clause-limit g c = row_limit c.args.dataset.now c.requires.listed.0 c.args.part.now c.requires.valid c.requires.listed.1
