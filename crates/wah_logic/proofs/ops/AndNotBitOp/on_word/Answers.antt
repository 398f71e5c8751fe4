use Rattle.wah_logic.proofs.OpsLemmas.{places_and_not}
use Rattle.wah_logic.proofs.ops.AndNotBitOp.on_word.Goals as goal

pub returns-clause-places : goal.returns-clause-places
returns-clause-places c = λ n h k. places_and_not n c.args.a c.args.b
