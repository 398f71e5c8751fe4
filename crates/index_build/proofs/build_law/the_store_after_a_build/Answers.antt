use Rattle.index_build.proofs.BuiltLemmas.{stands_done, stands_stopped}
use Rattle.index_build.proofs.build_law.the_store_after_a_build.Goals as goal

pub returns-clause-done : goal.returns-clause-done
returns-clause-done c = stands_done

pub returns-clause-stopped : goal.returns-clause-stopped
returns-clause-stopped c = stands_stopped
