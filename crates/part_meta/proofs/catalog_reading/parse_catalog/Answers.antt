use Rattle.part_meta.specs.CatalogText.{catalog_text}
use Rattle.part_meta.proofs.catalog_reading.parse_catalog.Goals as goal

pub returns-clause-found : goal.returns-clause-found
unfolding catalog_text
returns-clause-found c = c.read.ensures.found

pub returns-clause-exact : goal.returns-clause-exact
unfolding catalog_text
returns-clause-exact c = c.read.ensures.exact
