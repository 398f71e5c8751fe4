use Rattle.part_meta.proofs.CatalogLemmas.{begins_front, catalog_lines-injective, catalog_lines_are, front_is_short}
use Rattle.part_meta.proofs.catalog_reading.CatalogFrontFront.laws.Goals as goal

pub returns-clause-begins : goal.returns-clause-begins
returns-clause-begins c = begins_front

pub returns-clause-short : goal.returns-clause-short
returns-clause-short c = front_is_short

pub returns-clause-each_line : goal.returns-clause-each_line
returns-clause-each_line c = catalog_lines_are

pub returns-clause-one : goal.returns-clause-one
returns-clause-one c = catalog_lines-injective
