use Rattle.csv_load.proofs.FieldGrammarFacts.{field_says, only_says}
use Rattle.csv_load.proofs.field_law.the_fields_of_whole_columns.Goals as goal

pub returns-clause-says : goal.returns-clause-says
returns-clause-says c = field_says

pub returns-clause-only : goal.returns-clause-only
returns-clause-only c = only_says
