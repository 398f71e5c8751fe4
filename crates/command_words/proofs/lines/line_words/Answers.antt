use Rattle.std.proofs.Common.{sym}
use Rattle.std.proofs.lemmas.Str.{is_utf8-from_IsUtf8}
use Rattle.command_words.proofs.WordsLemmas.{words_of-other, words_of-text}
use Rattle.command_words.proofs.lines.line_words.Goals as goal

pub returns-in-Ok : goal.returns-in-Ok
returns-in-Ok c =
    let text = c.without_return-line.result.now in
    let same = words_of-text c.args.line.now text c.without_return-line.ensures (sym c.if-is_skipped.ensures)
    (is_utf8-from_IsUtf8 text c.in-Ok.ensures.cases.1) in
    record { words = rw (← same, ← c.in-Ok.ensures.cases.0) c.text_words.ensures }

pub returns-in-Err : goal.returns-in-Err
returns-in-Err c = record {
  words = words_of-other c.args.line.now c.without_return-line.result.now c.without_return-line.ensures (sym c.if-is_skipped.ensures)
      c.in-Err.ensures.cases.0;
}
