use Rattle.part_meta.proofs.FileNameLemmas.{catalog_is_no_csv, catalog_name-injective, file_is_no_catalog, file_is_no_csv, same_file}
use Rattle.part_meta.proofs.names.different_names.Goals as goal

pub returns-clause-files : goal.returns-clause-files
returns-clause-files c = same_file

pub returns-clause-catalogs : goal.returns-clause-catalogs
returns-clause-catalogs c = catalog_name-injective

pub returns-clause-apart : goal.returns-clause-apart
returns-clause-apart c = file_is_no_catalog

pub returns-clause-no_records : goal.returns-clause-no_records
returns-clause-no_records c = file_is_no_csv

pub returns-clause-no_record_catalog : goal.returns-clause-no_record_catalog
returns-clause-no_record_catalog c = catalog_is_no_csv
