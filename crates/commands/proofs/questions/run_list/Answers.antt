use Rattle.std.proofs.Common.{◌≡◌}
use Rattle.commands.proofs.PrintLemmas.{no_cause, not_store}
use Rattle.commands.proofs.Refusals.{IsRefusal, IsRefusal-list}
use Rattle.commands.proofs.QuestionLemmas.{lists_lines, list_declines, list_unstored}
use Rattle.commands.proofs.questions.run_list.Goals as goal

pub refuse-requires : goal.refuse-requires
refuse-requires g c =
    let comes = rw c.in-Err-Refused.field-0-is at c.in-Err-Refused.ensures.gives in
    (IsRefusal-list c.args.dir.now (g.S.Store.files c.args.store.now) c.in-Err-Refused.status comes).no_fault

pub returns-in-Ok-clause-runs : goal.returns-in-Ok-clause-runs
returns-in-Ok-clause-runs g c = λ left.
    let same : c.as_slice.result.now ≡ c.in-Ok.text.items = cc in
    lists_lines c.args.dir.now left (g.S.Store.files c.args.store.now) _ _ c.print_text.result c.in-Ok.text.items
    c.requires.path c.in-Ok.ensures.gives (rw same at c.print_text.ensures.prints)

pub returns-in-Err-Refused-clause-runs : goal.returns-in-Err-Refused-clause-runs
returns-in-Err-Refused-clause-runs g c = λ left.
    let comes = rw c.in-Err-Refused.field-0-is at c.in-Err-Refused.ensures.gives in
    list_declines c.args.dir.now left (g.S.Store.files c.args.store.now) _ _ c.refuse.result c.in-Err-Refused.status c.requires.path comes c.refuse.ensures.prints

pub returns-in-Err-Refused-clause-store_cause : goal.returns-in-Err-Refused-clause-store_cause
returns-in-Err-Refused-clause-store_cause g c =
    let comes = rw c.in-Err-Refused.field-0-is at c.in-Err-Refused.ensures.gives in
    let refusal : IsRefusal c.in-Err-Refused.status = IsRefusal-list c.args.dir.now (g.S.Store.files c.args.store.now) c.in-Err-Refused.status comes in
    no_cause _ _ c.list.ensures.cause (λ e. let bad = rw (c.in-Err-Refused.is, c.in-Err-Refused.field-0-is) at e in cc)
    (not_store c.in-Err-Refused.status _ _ _ c.refuse.result refusal.no_fault c.refuse.ensures.prints)

pub returns-in-Err-StoreFault-clause-runs : goal.returns-in-Err-StoreFault-clause-runs
returns-in-Err-StoreFault-clause-runs g c = λ left. list_unstored c.args.dir.now left (g.S.Store.files c.args.store.now) _
