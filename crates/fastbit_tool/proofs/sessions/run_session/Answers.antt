use Rattle.std.proofs.Common.{refl, ◌∙◌, arith}
use Rattle.fastbit_tool.specs.Session.{lines_of}
use Rattle.fastbit_tool.proofs.LinesLemmas.{lines_unread}
use Rattle.fastbit_tool.proofs.SessionLemmas.{session_long, session_ran}
use Rattle.fastbit_tool.proofs.sessions.run_session.Goals as goal

pub returns-in-Ok-clause-ran : goal.returns-in-Ok-clause-ran
returns-in-Ok-clause-ran g c =
    let text_is = c.deref.ensures.value in
    session_ran (g.I.Source.left c.args.input.now) (g.I.Source.left c.read_input.new.input) (g.I.Source.left c.run_lines.new.input)
    c.in-Ok.bytes.items _ _ c.run_lines.result c.in-Ok.ensures.taken c.in-Ok.ensures.end c.in-Ok.ensures.within
    (rw text_is at c.run_lines.ensures.runs) c.run_lines.ensures.untouched.0

pub returns-in-Ok-clause-read_cause : goal.returns-in-Ok-clause-read_cause
returns-in-Ok-clause-read_cause g c =
    let unread = c.in-Ok.ensures.cause.told (λ e. cc) in
    let untouched = c.run_lines.ensures.untouched.1 in
    record {
      later = omega arith;
      rose = λ e. absurd (lines_unread (lines_of c.deref.result.now) (g.I.Source.left c.read_input.new.input) _ _ c.run_lines.result c.run_lines.ensures.runs e);
      told = λ never. untouched ∙ unread;
    }

pub returns-in-Err-TooLong-clause-ran : goal.returns-in-Err-TooLong-clause-ran
returns-in-Err-TooLong-clause-ran g c =
    session_long (g.I.Source.left c.args.input.now) (g.I.Source.left c.read_input.new.input) _ _ c.refuse.result c.too_long.result c.in-Err-TooLong.limit 65536
    (rw c.in-Err-TooLong.field-0-is at c.in-Err-TooLong.ensures.fault) c.too_long.ensures (record { files = refl; reads = refl; steps = refl })
    c.refuse.ensures.prints
