use Rattle.where_plan.proofs.FoldLemmas.{atoms_of-all, atoms_of-and, atoms_of-not, atoms_of-one, atoms_of-or, atoms_of-xor}
use Rattle.where_plan.proofs.laws.the_conditions_of_plans.Goals as goal

pub returns-clause-all : goal.returns-clause-all
returns-clause-all c = atoms_of-all

pub returns-clause-one : goal.returns-clause-one
returns-clause-one c = atoms_of-one

pub returns-clause-not : goal.returns-clause-not
returns-clause-not c = atoms_of-not

pub returns-clause-or : goal.returns-clause-or
returns-clause-or c = atoms_of-or

pub returns-clause-and : goal.returns-clause-and
returns-clause-and c = atoms_of-and

pub returns-clause-xor : goal.returns-clause-xor
returns-clause-xor c = atoms_of-xor
