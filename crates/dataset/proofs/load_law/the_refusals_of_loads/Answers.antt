use Rattle.dataset.proofs.LoadLemmas.{differ_first, no_difference, refused-by_columns, refusal-none, refused-by_counts, same_schema}
use Rattle.dataset.proofs.load_law.the_refusals_of_loads.Goals as goal

pub returns-clause-same : goal.returns-clause-same
returns-clause-same c = no_difference

pub returns-clause-only : goal.returns-clause-only
returns-clause-only c = same_schema

pub returns-clause-differs : goal.returns-clause-differs
returns-clause-differs c = differ_first

pub returns-clause-columns : goal.returns-clause-columns
returns-clause-columns c = refused-by_columns

pub returns-clause-counts : goal.returns-clause-counts
returns-clause-counts c = refused-by_counts

pub returns-clause-taken : goal.returns-clause-taken
returns-clause-taken c = refusal-none
