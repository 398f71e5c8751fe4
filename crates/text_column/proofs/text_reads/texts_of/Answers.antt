use Rattle.std.proofs.Common.{◌++◌, ap, sym, ◌∙◌, append-nil}
use Rattle.text_column.proofs.TextLemmas.{few_texts}
use Rattle.text_column.proofs.text_reads.texts_of.Goals as goal

pub returns : goal.returns
returns c =
    sym
    (c.loop-starts.invariant.read
    ∙ ap (λ more. c.loop-starts.texts.items ++ more) (few_texts c.loop-starts.starts.now c.loop-starts.bytes.now c.in_default.len_below)
    ∙ append-nil c.loop-starts.texts.items)
