use Rattle.ardea.proofs.WorldLemmas.{StandsFor-cut, StandsFor-done, ends_kept, result_in_world}
use Rattle.ardea.proofs.laws.the_load_in_a_world.Goals as goal

pub returns-clause-answer : goal.returns-clause-answer
returns-clause-answer c = result_in_world

pub returns-clause-done : goal.returns-clause-done
returns-clause-done c = StandsFor-done

pub returns-clause-cut : goal.returns-clause-cut
returns-clause-cut c = StandsFor-cut

pub returns-clause-kept : goal.returns-clause-kept
returns-clause-kept c = ends_kept
