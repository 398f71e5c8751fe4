use Rattle.std.proofs.Common.{◌+◌, ◌-◌, [], ap, ◌∙◌, Err, rules}
use Rattle.text_column.specs.DictionaryFile.{and_then, next_in, words_in}
use Rattle.answers.specs.Answers.{Answers}
use Rattle.text_column.specs.OpenedDictionary.{told_by_file}
use Rattle.text_column.proofs.DictionaryLemmas.{stops_next, words_next, longer_next}
use Rattle.text_column.proofs.dictionary_file.words_of.Goals as goal

pub returns-in_err-rest-clause-exact : goal.returns-in_err-rest-clause-exact
returns-in_err-rest-clause-exact c =
    let h : Answers told_by_file (Err c.in_err-rest.field-0.0) (words_in c.args.count ([], c.args.bytes.now)) =
    stops_next c.in_err-rest.field-0.0 (next_in c.loop.words c.loop.rest.now) (words_in (c.args.count - (c.loop.counter + 1))) _
    (c.loop.invariant.left ∙ words_next c.loop.counter c.args.count c.loop.words c.loop.rest.now c.loop-test.true)
    c.in_err-rest.ensures.err in
    search (rules, h)

pub loop-preserved : goal.loop-preserved
loop-preserved c = record {
  known = longer_next c.loop.words c.loop.rest.now c.add_from.new.self c.in_ok-rest.rest.now c.in_ok-rest.ensures.ok ∙ ap (λ n. n + 1) c.loop.invariant.known;
  left = c.loop.invariant.left ∙ words_next c.loop.counter c.args.count c.loop.words c.loop.rest.now c.loop-test.true
      ∙ ap (λ r. and_then r (words_in (c.args.count - (c.loop.counter + 1)))) c.in_ok-rest.ensures.ok;
}
