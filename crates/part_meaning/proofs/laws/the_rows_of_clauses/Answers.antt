use Rattle.part_meaning.proofs.KnownLemmas.{rows_of_clause}
use Rattle.part_meaning.proofs.laws.the_rows_of_clauses.Goals as goal

pub returns : goal.returns
returns c = λ schema part asked planned valid is. rows_of_clause schema asked planned part.records is valid.fit
