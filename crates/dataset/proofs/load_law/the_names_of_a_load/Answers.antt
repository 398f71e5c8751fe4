use Rattle.dataset.proofs.LoadLemmas.{names-of_load, others-stay}
use Rattle.dataset.proofs.load_law.the_names_of_a_load.Goals as goal

pub returns-clause-kept : goal.returns-clause-kept
returns-clause-kept c = others-stay

pub returns-clause-names : goal.returns-clause-names
returns-clause-names c = names-of_load
