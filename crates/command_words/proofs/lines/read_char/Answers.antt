use Rattle.std.proofs.Common.{sym, arith}
use Rattle.command_words.proofs.AheadLemmas.{IsPlain-from, blank_ends, blank_stays, char_begins, char_quoted, char_touches, quote_begins, quote_ends, quote_touches}
use Rattle.command_words.proofs.lines.read_char.Goals as goal

pub returns-in-39 : goal.returns-in-39
returns-in-39 c = quote_begins _ _ _ c.new.result c.in-Between.is c.in-39.is c.new.ensures.bytes

pub returns-in_default : goal.returns-in_default
returns-in_default c = blank_stays _ _ _ c.in-Between.is (sym c.if-is_blank.ensures)

pub returns-in_ok-longer-in_default-2 : goal.returns-in_ok-longer-in_default-2
returns-in_ok-longer-in_default-2 c =
    char_begins _ _ _ c.in_ok-longer-in_default-2.field-0 c.in-Between.is (IsPlain-from c.args.c (λ e. omega (arith, e)) (sym c.if-is_blank.ensures))
    (rw c.new-in_default-2.ensures.bytes at c.in_ok-longer-in_default-2.ensures)

pub returns-in-39-c : goal.returns-in-39-c
returns-in-39-c c = quote_touches _ _ _ _ c.in-InWord.is c.in-39-c.is

pub returns-in_ok-push-in_default-c : goal.returns-in_ok-push-in_default-c
returns-in_ok-push-in_default-c c =
    blank_ends _ _ _ _ _ c.in-InWord.is (sym c.if-is_blank-2.ensures) c.in_ok-push-in_default-c.ensures.items

pub returns-in_ok-longer-in_default-2-c : goal.returns-in_ok-longer-in_default-2-c
returns-in_ok-longer-in_default-2-c c =
    char_touches _ _ _ _ c.in_ok-longer-in_default-2-c.field-0 c.in-InWord.is (IsPlain-from c.args.c (λ e. omega (arith, e)) (sym c.if-is_blank-2.ensures))
    c.in_ok-longer-in_default-2-c.ensures

pub returns-in-39-c-2 : goal.returns-in-39-c-2
returns-in-39-c-2 c = quote_ends _ _ _ _ c.in-InQuotes.is c.in-39-c-2.is

pub returns-in_ok-longer-in_default-c-2 : goal.returns-in_ok-longer-in_default-c-2
returns-in_ok-longer-in_default-c-2 c =
    char_quoted _ _ _ _ c.in_ok-longer-in_default-c-2.field-0 c.in-InQuotes.is (λ e. omega (arith, e)) c.in_ok-longer-in_default-c-2.ensures
