use Rattle.query_engine.proofs.LawLemmas.{hits_of_clauses, rows_of_clauses}
use Rattle.query_engine.proofs.laws.the_hits_of_clauses.Goals as goal

pub returns-clause-rows : goal.returns-clause-rows
returns-clause-rows c = rows_of_clauses

pub returns-clause-hits : goal.returns-clause-hits
returns-clause-hits c = hits_of_clauses
