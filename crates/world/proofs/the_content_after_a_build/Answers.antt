use Rattle.world.proofs.IndexLemmas.{IsContent-built, catalog-built}
use Rattle.world.proofs.the_content_after_a_build.Goals as goal

pub returns-clause-valid : goal.returns-clause-valid
returns-clause-valid c content place col part spec valid listed can = IsContent-built content place part col spec valid listed can

pub returns-clause-catalog : goal.returns-clause-catalog
returns-clause-catalog c = catalog-built
