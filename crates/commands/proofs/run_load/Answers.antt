use Rattle.commands.specs.Runs.{Refuses}
use Rattle.commands.proofs.Refusals.{IsRefusal, IsRefusal-load}
use Rattle.commands.proofs.PrintLemmas.{no_cause, not_done, not_read, not_store}
use Rattle.commands.proofs.LoadRunLemmas.{loaded_runs}
use Rattle.commands.proofs.run_load.Goals as goal

pub refuse-requires : goal.refuse-requires
refuse-requires g c =
    let ends = rw c.in-Err-Refused.field-0-is at c.in-Err-Refused.ensures.ends in
    (IsRefusal-load c.args.asked.now (g.I.Source.left c.args.input.now) (g.S.Store.files c.args.store.now) c.in-Err-Refused.status ends.0).no_fault

pub returns-in-Ok-clause-runs : goal.returns-in-Ok-clause-runs
returns-in-Ok-clause-runs g c = loaded_runs _ _ _ _ _ _ _ c.in-Ok.rows c.in-Ok.ensures.ends c.print_loaded.ensures.prints

pub returns-in-Err-Refused-clause-runs : goal.returns-in-Err-Refused-clause-runs
returns-in-Err-Refused-clause-runs g c =
    let ends = rw c.in-Err-Refused.field-0-is at c.in-Err-Refused.ensures.ends in
    Refuses c.in-Err-Refused.status ends.0 ends.1 c.refuse.ensures.prints

pub returns-in-Err-Refused-clause-end : goal.returns-in-Err-Refused-clause-end
returns-in-Err-Refused-clause-end g c = λ none. λ e.
    let ends = rw c.in-Err-Refused.field-0-is at c.in-Err-Refused.ensures.ends in
    let refusal : IsRefusal c.in-Err-Refused.status =
    IsRefusal-load c.args.asked.now (g.I.Source.left c.args.input.now) (g.S.Store.files c.args.store.now) c.in-Err-Refused.status ends.0 in
    absurd (not_done c.in-Err-Refused.status _ _ _ c.refuse.result refusal.not_done c.refuse.ensures.prints e)

pub returns-in-Err-Refused-clause-read_cause : goal.returns-in-Err-Refused-clause-read_cause
returns-in-Err-Refused-clause-read_cause g c =
    let ends = rw c.in-Err-Refused.field-0-is at c.in-Err-Refused.ensures.ends in
    let refusal : IsRefusal c.in-Err-Refused.status =
    IsRefusal-load c.args.asked.now (g.I.Source.left c.args.input.now) (g.S.Store.files c.args.store.now) c.in-Err-Refused.status ends.0 in
    no_cause _ _ c.load.ensures.read_cause (λ e. let bad = rw (c.in-Err-Refused.is, c.in-Err-Refused.field-0-is) at e in cc)
    (not_read c.in-Err-Refused.status _ _ _ c.refuse.result refusal.no_fault c.refuse.ensures.prints)

pub returns-in-Err-Refused-clause-store_cause : goal.returns-in-Err-Refused-clause-store_cause
returns-in-Err-Refused-clause-store_cause g c =
    let ends = rw c.in-Err-Refused.field-0-is at c.in-Err-Refused.ensures.ends in
    let refusal : IsRefusal c.in-Err-Refused.status =
    IsRefusal-load c.args.asked.now (g.I.Source.left c.args.input.now) (g.S.Store.files c.args.store.now) c.in-Err-Refused.status ends.0 in
    no_cause _ _ c.load.ensures.store_cause (λ e. let bad = rw (c.in-Err-Refused.is, c.in-Err-Refused.field-0-is) at e in cc)
    (not_store c.in-Err-Refused.status _ _ _ c.refuse.result refusal.no_fault c.refuse.ensures.prints)
