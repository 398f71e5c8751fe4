use Rattle.text_column.proofs.FaultLemmas.{found_fault}
use Rattle.text_column.proofs.laws.the_faults_of_dictionaries.Goals as goal

pub returns : goal.returns
returns c = λ bytes fault are h. found_fault bytes fault are h
