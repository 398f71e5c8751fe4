use Rattle.std.proofs.Common.{◌++◌, ap, sym, ◌∙◌, length, arith}
use Rattle.std.specs.Int.{w16, w32, to_le_bytes}
use Rattle.text_column.proofs.DictionaryLemmas.{word_written, all_written}
use Rattle.text_column.proofs.dictionary.Dictionary.to_bytes.Goals as goal

pub loop-place-preserved : goal.loop-place-preserved
loop-place-preserved c =
    c.in_ok-extend_from_slice.ensures.items
    ∙ ap (λ b. b ++ c.in-Some.word.now) (c.in_ok-push_u16.ensures.ok ∙ ap (λ b. b ++ to_le_bytes w16 (length c.in-Some.word.now)) c.loop-place.invariant)
    ∙ word_written c.args.self.now c.loop-place.place c.in-Some.word.now (to_le_bytes w32 (length c.args.self.now)) (sym c.in-Some.ensures)

pub returns : goal.returns
returns c = c.loop-place.invariant ∙ all_written c.args.self.now c.loop-place.place (omega (arith, c.loop-place-test.false, c.len-count.ensures.len))
