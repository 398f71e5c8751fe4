use Rattle.query_engine.proofs.LawLemmas.{definite_hold, hits_are_possible}
use Rattle.query_engine.proofs.laws.estimates_enclose_hits.Goals as goal

pub returns-clause-definite : goal.returns-clause-definite
returns-clause-definite c = definite_hold

pub returns-clause-possible : goal.returns-clause-possible
returns-clause-possible c = hits_are_possible
