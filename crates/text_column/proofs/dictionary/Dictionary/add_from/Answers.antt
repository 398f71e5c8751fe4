use Rattle.std.proofs.Common.{◌≡◌, ◌+◌, ◌<◌, ap, sym, ◌∙◌, Some, length, arith}
use Rattle.text_column.specs.DictionaryFile.{word_at}
use Rattle.text_column.specs.Words.{code_in, with_word}
use Rattle.text_column.proofs.DictionaryLemmas.{repeated_next}
use Rattle.text_column.proofs.dictionary.Dictionary.add_from.Goals as goal

pub returns-in-Ok-2-clause-err : goal.returns-in-Ok-2-clause-err
returns-in-Ok-2-clause-err c =
    let at : Some (c.in-Ok.word, c.in-Some.rest.now) ≡ word_at c.args.bytes.now = ap (λ w. Some (w, c.in-Some.rest.now)) c.in-Ok.ensures ∙ c.in-Some.ensures.value in
    let some : 0 < length c.in-Ok.word = grind (arith, c.is_empty.ensures, c.if-is_empty.false, c.in-Ok.ensures) in
    let code : code_in (with_word c.args.self.now c.in-Ok.word) c.in-Ok.word ≡ Some c.in-Ok-add.given =
    ap (λ words. code_in words c.in-Ok.word) (sym c.in-Ok-add.ensures.ok) ∙ c.in-Ok-add.ensures.code in
    let size = c.len-code.ensures.len in
    rw size (repeated_next c.args.self.now c.in-Ok.word c.in-Some.rest.now c.args.bytes.now c.in-Ok-add.given at some code
    (λ e. c.if-given-code.false (e ∙ ap (λ n. n + 1) (sym size))))
