use Rattle.dataset.proofs.LoadLemmas.{catalog_before-absent, catalog_before-there}
use Rattle.dataset.proofs.load_law.the_catalog_before_a_load.Goals as goal

pub returns-clause-there : goal.returns-clause-there
returns-clause-there c = catalog_before-there

pub returns-clause-absent : goal.returns-clause-absent
returns-clause-absent c = catalog_before-absent
