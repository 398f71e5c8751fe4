use Rattle.std.proofs.Common.{codes}
use Rattle.part_meta.proofs.PartLemmas.{behind_type}
use Rattle.part_meta.proofs.part_reading.type_in.Goals as goal

pub returns-in-Some : goal.returns-in-Some
returns-in-Some c = behind_type c.named.result c.args.text.now (codes "data_type = ") c.in-Some.word.now c.in-Some.ensures c.named.ensures
