use Rattle.std.proofs.Common.{◌≡◌, refl, sym, ap, ◌∙◌}
use Rattle.command_words.specs.Words.{asked_by}
use Rattle.statuses.specs.declared.Status.TheVariants.{OutOfMemory}
use Rattle.commands.specs.Command.{command_of, command_outcome}
use Rattle.commands.proofs.PrintLemmas.{quiet_leaves, quiet_replies, some_input, some_told}
use Rattle.gen_run.specs.Made.{gen_outcome}
use Rattle.fastbit_tool.specs.Requests.{Of, OfSession, OfTable, asked_of, outcome}
use Rattle.fastbit_tool.proofs.CompleteLemmas.{call_completes, memory_completes}
use Rattle.fastbit_tool.proofs.RequestLemmas.{command_asked, quiet_keeps, session_asked, table_asked}
use Rattle.fastbit_tool.proofs.TableLemmas.{table_causes, table_leaves, table_replies, table_unread, table_unstored}
use Rattle.fastbit_tool.proofs.run.Goals as goal

-- ---- a session

pub returns-in-Ok-clause-effects : goal.returns-in-Ok-clause-effects
returns-in-Ok-clause-effects g c =
    let is : asked_of (asked_by c.args.words.now) ≡ OfSession =
    ap asked_of (sym c.in-Ok.ensures.request) ∙ session_asked c.in-Ok.asked (sym c.is_session.ensures ∙ c.if-is_session.true) in
    rw is c.session.ensures.effects

-- ---- a table that is made

pub returns-in-Some-clause-reply : goal.returns-in-Some-clause-reply
returns-in-Some-clause-reply g c =
    let is : asked_of (asked_by c.args.words.now) ≡ OfTable c.in-Some.rows c.in-Some.seed =
    ap asked_of (sym c.in-Ok.ensures.request) ∙ table_asked c.in-Ok.asked (c.in-Some.rows, c.in-Some.seed) (sym c.table_of.ensures.table ∙ c.in-Some.is) in
    rw is (table_replies c.in-Some.rows c.in-Some.seed (g.I.Source.left c.args.input.now) (g.S.Store.files c.args.store.now) c.run_gen.result
    (g.K.Sink.written c.args.out.now) (g.K.Sink.written c.run_gen.new.out) c.run_gen.ensures.reply)

pub returns-in-Some-clause-completeness : goal.returns-in-Some-clause-completeness
returns-in-Some-clause-completeness g c =
    let is : asked_of (asked_by c.args.words.now) ≡ OfTable c.in-Some.rows c.in-Some.seed =
    ap asked_of (sym c.in-Ok.ensures.request) ∙ table_asked c.in-Ok.asked (c.in-Some.rows, c.in-Some.seed) (sym c.table_of.ensures.table ∙ c.in-Some.is) in
    rw is (call_completes (λ bytes w. gen_outcome c.in-Some.rows c.in-Some.seed) c.run_gen.result (g.I.Source.left c.args.input.now)
    (g.S.Store.files c.args.store.now) (g.K.Sink.written c.args.out.now) (g.K.Sink.written c.run_gen.new.out)
    (g.I.Source.faults c.args.input.now) (g.I.Source.faults c.args.input.now) (g.S.Store.faults c.args.store.now) (g.S.Store.faults c.args.store.now)
    (g.K.Sink.faults c.args.out.now) (g.K.Sink.faults c.run_gen.new.out)
    (table_replies c.in-Some.rows c.in-Some.seed (g.I.Source.left c.args.input.now) (g.S.Store.files c.args.store.now) c.run_gen.result
    (g.K.Sink.written c.args.out.now) (g.K.Sink.written c.run_gen.new.out) c.run_gen.ensures.reply)
    (table_unread (g.I.Source.faults c.args.input.now) c.run_gen.result c.run_gen.ensures.ends)
    (table_unstored (g.S.Store.faults c.args.store.now) c.run_gen.result c.run_gen.ensures.ends) c.run_gen.ensures.print_cause)

pub returns-in-Some-clause-effects : goal.returns-in-Some-clause-effects
returns-in-Some-clause-effects g c =
    let is : asked_of (asked_by c.args.words.now) ≡ OfTable c.in-Some.rows c.in-Some.seed =
    ap asked_of (sym c.in-Ok.ensures.request) ∙ table_asked c.in-Ok.asked (c.in-Some.rows, c.in-Some.seed) (sym c.table_of.ensures.table ∙ c.in-Some.is) in
    rw is (table_leaves c.in-Some.rows c.in-Some.seed (g.I.Source.left c.args.input.now) (g.S.Store.files c.args.store.now) c.run_gen.result)

pub returns-in-Some-clause-kept : goal.returns-in-Some-clause-kept
returns-in-Some-clause-kept g c =
    quiet_keeps (asked_of (asked_by c.args.words.now)) (g.I.Source.left c.args.input.now) (g.S.Store.files c.args.store.now)

pub returns-in-Some-clause-causes : goal.returns-in-Some-clause-causes
returns-in-Some-clause-causes g c =
    let is : asked_of (asked_by c.args.words.now) ≡ OfTable c.in-Some.rows c.in-Some.seed =
    ap asked_of (sym c.in-Ok.ensures.request) ∙ table_asked c.in-Ok.asked (c.in-Some.rows, c.in-Some.seed) (sym c.table_of.ensures.table ∙ c.in-Some.is) in
    rw is (table_causes c.in-Some.rows c.in-Some.seed (g.I.Source.left c.args.input.now) (g.S.Store.files c.args.store.now) c.run_gen.result
    c.run_gen.ensures.ends)

-- ---- one command

pub returns-in-Ok-2-clause-reply : goal.returns-in-Ok-2-clause-reply
returns-in-Ok-2-clause-reply g c =
    let is : asked_of (asked_by c.args.words.now) ≡ Of (command_of c.in-Ok.asked) =
    ap asked_of (sym c.in-Ok.ensures.request)
    ∙ command_asked c.in-Ok.asked (sym c.is_session.ensures ∙ c.if-is_session.false) (sym c.table_of.ensures.table ∙ c.in-None.is) in
    rw is c.run_command.ensures.reply

pub returns-in-Ok-2-clause-effects : goal.returns-in-Ok-2-clause-effects
returns-in-Ok-2-clause-effects g c =
    let is : asked_of (asked_by c.args.words.now) ≡ Of (command_of c.in-Ok.asked) =
    ap asked_of (sym c.in-Ok.ensures.request)
    ∙ command_asked c.in-Ok.asked (sym c.is_session.ensures ∙ c.if-is_session.false) (sym c.table_of.ensures.table ∙ c.in-None.is) in
    rw is c.run_command.ensures.effects

pub returns-in-Ok-2-clause-kept : goal.returns-in-Ok-2-clause-kept
returns-in-Ok-2-clause-kept g c =
    let is : asked_of (asked_by c.args.words.now) ≡ Of (command_of c.in-Ok.asked) =
    ap asked_of (sym c.in-Ok.ensures.request)
    ∙ command_asked c.in-Ok.asked (sym c.is_session.ensures ∙ c.if-is_session.false) (sym c.table_of.ensures.table ∙ c.in-None.is) in
    rw is (record {
      input = some_input (g.I.Source.left c.args.input.now);
      told = some_told (g.I.Source.left c.args.input.now);
      holds = c.run_command.ensures.kept;
    })

pub returns-in-Ok-2-clause-refused : goal.returns-in-Ok-2-clause-refused
returns-in-Ok-2-clause-refused g c =
    let is : asked_of (asked_by c.args.words.now) ≡ Of (command_of c.in-Ok.asked) =
    ap asked_of (sym c.in-Ok.ensures.request)
    ∙ command_asked c.in-Ok.asked (sym c.is_session.ensures ∙ c.if-is_session.false) (sym c.table_of.ensures.table ∙ c.in-None.is) in
    rw is c.run_command.ensures.refused

pub returns-in-Ok-2-clause-causes : goal.returns-in-Ok-2-clause-causes
returns-in-Ok-2-clause-causes g c =
    let is : asked_of (asked_by c.args.words.now) ≡ Of (command_of c.in-Ok.asked) =
    ap asked_of (sym c.in-Ok.ensures.request)
    ∙ command_asked c.in-Ok.asked (sym c.is_session.ensures ∙ c.if-is_session.false) (sym c.table_of.ensures.table ∙ c.in-None.is) in
    rw is c.run_command.ensures.causes

pub returns-in-Ok-2-clause-untouched : goal.returns-in-Ok-2-clause-untouched
returns-in-Ok-2-clause-untouched g c =
    let is : asked_of (asked_by c.args.words.now) ≡ Of (command_of c.in-Ok.asked) =
    ap asked_of (sym c.in-Ok.ensures.request)
    ∙ command_asked c.in-Ok.asked (sym c.is_session.ensures ∙ c.if-is_session.false) (sym c.table_of.ensures.table ∙ c.in-None.is) in
    rw is c.run_command.ensures.untouched

pub returns-in-Ok-2-clause-completeness : goal.returns-in-Ok-2-clause-completeness
returns-in-Ok-2-clause-completeness g c =
    let is : asked_of (asked_by c.args.words.now) ≡ Of (command_of c.in-Ok.asked) =
    ap asked_of (sym c.in-Ok.ensures.request)
    ∙ command_asked c.in-Ok.asked (sym c.is_session.ensures ∙ c.if-is_session.false) (sym c.table_of.ensures.table ∙ c.in-None.is) in
    rw is (call_completes (λ bytes w. command_outcome (command_of c.in-Ok.asked) bytes w) c.run_command.result (g.I.Source.left c.args.input.now)
    (g.S.Store.files c.args.store.now) (g.K.Sink.written c.args.out.now) (g.K.Sink.written c.run_command.new.out)
    (g.I.Source.faults c.args.input.now) (g.I.Source.faults c.run_command.new.input) (g.S.Store.faults c.args.store.now) (g.S.Store.faults c.run_command.new.store)
    (g.K.Sink.faults c.args.out.now) (g.K.Sink.faults c.run_command.new.out)
    c.run_command.ensures.reply c.run_command.ensures.read_cause c.run_command.ensures.store_cause c.run_command.ensures.print_cause)

-- ---- memory ran out before it was known what is asked

pub returns-clause-reply : goal.returns-clause-reply
returns-clause-reply g c =
    quiet_replies (λ bytes w. outcome (asked_of (asked_by c.args.words.now)) bytes w) (g.I.Source.left c.args.input.now)
    (g.S.Store.files c.args.store.now) OutOfMemory (g.K.Sink.written c.args.out.now) refl

pub returns-clause-effects : goal.returns-clause-effects
returns-clause-effects g c =
    quiet_leaves (λ bytes w. outcome (asked_of (asked_by c.args.words.now)) bytes w) (g.I.Source.left c.args.input.now)
    (g.S.Store.files c.args.store.now) OutOfMemory refl

pub returns-clause-kept : goal.returns-clause-kept
returns-clause-kept g c =
    quiet_keeps (asked_of (asked_by c.args.words.now)) (g.I.Source.left c.args.input.now) (g.S.Store.files c.args.store.now)

pub returns-clause-completeness : goal.returns-clause-completeness
returns-clause-completeness g c =
    memory_completes (λ bytes w. outcome (asked_of (asked_by c.args.words.now)) bytes w) (g.I.Source.left c.args.input.now)
    (g.S.Store.files c.args.store.now) (g.I.Source.faults c.args.input.now) (g.S.Store.faults c.args.store.now) (g.K.Sink.faults c.args.out.now)
