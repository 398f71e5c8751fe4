use Rattle.std.proofs.Common.{◌++◌, take, get_or, refl, sym, ap, ◌∙◌, arith, append_assoc}
use Rattle.std.proofs.lemmas.List.{append-nil}
use Rattle.wah_words.specs.Bytes.{number_bytes, words_bytes, decoded_all}
use Rattle.wah_words.proofs.BytesLemmas.{words_bytes-more, words_bytes-none}
use Rattle.wah_words.proofs.writing.append_words.Goals as goal

pub loop-word-init : goal.loop-word-init
loop-word-init g c = record {
  items = sym (ap (λ l. c.args.bytes.now.items ++ l) words_bytes-none ∙ append-nil c.args.bytes.now.items);
  len = omega arith;
  capacity = refl;
  steps = omega arith;
}

pub loop-word-preserved : goal.loop-word-preserved
loop-word-preserved g c =
    let i = c.loop-word.invariant in
    let xs = c.args.words.now in
    let k = c.loop-word.word-index in
    let old = c.args.bytes.now.items in
    record {
      items = c.append_number.ensures.items ∙ ap (λ l. l ++ number_bytes (get_or xs k 0)) i.items ∙ append_assoc old (words_bytes (decoded_all (take k xs))) (number_bytes (get_or xs k 0)) ∙ ap (λ l. old ++ l) (sym (words_bytes-more xs k c.loop-word-test.true ((c.type_inv.words k).fits)));
      len = omega (arith, c.append_number.ensures.len, i.len);
      capacity = c.append_number.ensures.capacity ∙ i.capacity;
      steps = omega (arith, c.tick.ensures, i.steps);
    }
