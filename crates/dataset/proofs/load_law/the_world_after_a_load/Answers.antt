use Rattle.dataset.proofs.LoadLemmas.{Stands-front, Stands-loaded}
use Rattle.dataset.proofs.load_law.the_world_after_a_load.Goals as goal

pub returns-clause-all : goal.returns-clause-all
returns-clause-all c = Stands-loaded

pub returns-clause-front : goal.returns-clause-front
returns-clause-front c = Stands-front
