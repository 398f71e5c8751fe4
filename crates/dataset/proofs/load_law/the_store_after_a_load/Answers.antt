use Rattle.dataset.proofs.LoadLemmas.{StandsFor-loaded, StandsFor-stopped}
use Rattle.dataset.proofs.load_law.the_store_after_a_load.Goals as goal

pub returns-clause-done : goal.returns-clause-done
returns-clause-done c = StandsFor-loaded

pub returns-clause-stopped : goal.returns-clause-stopped
returns-clause-stopped c = StandsFor-stopped
