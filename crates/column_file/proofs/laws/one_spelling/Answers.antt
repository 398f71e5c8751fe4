use Rattle.column_file.proofs.ValuesLemmas.{values_again, numbers_again, numbers_fit}
use Rattle.column_file.proofs.laws.one_spelling.Goals as goal

pub returns-clause-read : goal.returns-clause-read
returns-clause-read c = values_again

pub returns-clause-written : goal.returns-clause-written
returns-clause-written c = numbers_again

pub returns-clause-fit : goal.returns-clause-fit
returns-clause-fit c = numbers_fit
