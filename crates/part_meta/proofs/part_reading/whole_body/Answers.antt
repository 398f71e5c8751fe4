use Rattle.std.proofs.Common.{arith}
use Rattle.part_meta.proofs.PartLemmas.{all_columns}
use Rattle.part_meta.proofs.part_reading.whole_body.Goals as goal

pub returns-then-len-body : goal.returns-then-len-body
returns-then-len-body c = λ part is e. let all = all_columns c.args.body c.requires.valid part is e in absurd (omega (arith, all))
