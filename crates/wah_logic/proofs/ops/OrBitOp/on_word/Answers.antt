use Rattle.std.proofs.lemmas.Nat.{or_lt}
use Rattle.wah_logic.proofs.OpsLemmas.{places_or}
use Rattle.wah_logic.proofs.ops.OrBitOp.on_word.Goals as goal

pub returns-clause-places : goal.returns-clause-places
returns-clause-places c = λ n h k. places_or n c.args.a c.args.b

pub returns-clause-fits : goal.returns-clause-fits
returns-clause-fits c = λ n h k. or_lt n c.args.a c.args.b h k
