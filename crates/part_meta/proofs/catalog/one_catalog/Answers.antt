use Rattle.part_meta.proofs.CatalogLemmas.{catalog_text-injective}
use Rattle.part_meta.proofs.catalog.one_catalog.Goals as goal

pub returns : goal.returns
returns c = catalog_text-injective
