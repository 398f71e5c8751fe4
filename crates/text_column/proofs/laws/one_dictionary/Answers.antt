use Rattle.text_column.proofs.DictionaryLemmas.{dictionary_again}
use Rattle.text_column.proofs.FaultLemmas.{found_dictionary}
use Rattle.text_column.proofs.laws.one_dictionary.Goals as goal

pub returns-clause-read : goal.returns-clause-read
returns-clause-read c = dictionary_again

pub returns-clause-written : goal.returns-clause-written
returns-clause-written c = λ bytes words are h. found_dictionary bytes words are h
