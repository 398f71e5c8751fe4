use Rattle.std.proofs.Common.{◌∙◌, sym}
use Rattle.wah_words.specs.Places.{places}
use Rattle.wah_logic.proofs.SwapLemmas.{each_swapped}
use Rattle.wah_logic.proofs.ops.SwappedBitOp.on_word.Goals as goal

pub returns-clause-places : goal.returns-clause-places
returns-clause-places g c = λ n h k. c.on_word.ensures.places n k h ∙ sym (each_swapped g.O.BitOp.op (places n c.args.a) (places n c.args.b))
