use Rattle.std.proofs.lemmas.Nat.{xor_lt}
use Rattle.wah_logic.proofs.OpsLemmas.{places_xor}
use Rattle.wah_logic.proofs.ops.XorBitOp.on_word.Goals as goal

pub returns-clause-places : goal.returns-clause-places
returns-clause-places c = λ n h k. places_xor n c.args.a c.args.b

pub returns-clause-fits : goal.returns-clause-fits
returns-clause-fits c = λ n h k. xor_lt n c.args.a c.args.b h k
