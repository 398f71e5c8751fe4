use Rattle.column_file.proofs.ValuesLemmas.{length-values_bytes, part_of_values}
use Rattle.column_file.proofs.laws.rows_of_one_width.Goals as goal

pub returns-clause-size : goal.returns-clause-size
returns-clause-size c = length-values_bytes

pub returns-clause-part : goal.returns-clause-part
returns-clause-part c = λ ty values first count. part_of_values ty first count values
