use Rattle.where_grammar.proofs.Parts.{holds-one, holds-not, holds-or, holds-and, holds-xor}
use Rattle.where_grammar.proofs.truth.the_truth_of_clauses.Goals as goal

pub returns-clause-one : goal.returns-clause-one
returns-clause-one c = holds-one

pub returns-clause-not : goal.returns-clause-not
returns-clause-not c = holds-not

pub returns-clause-or : goal.returns-clause-or
returns-clause-or c = holds-or

pub returns-clause-and : goal.returns-clause-and
returns-clause-and c = holds-and

pub returns-clause-xor : goal.returns-clause-xor
returns-clause-xor c = holds-xor
