use Rattle.part_meta.proofs.PartLemmas.{open_is_no_end}
use Rattle.part_meta.proofs.part_reading.whole_column.Goals as goal

pub returns-in_default : goal.returns-in_default
returns-in_default c = λ part is e. open_is_no_end c.args.body c.args.column c.requires.0 c.in_default.not-Nothing part is e
