use Rattle.index_build.proofs.BuiltLemmas.{rows_in_world}
use Rattle.index_build.proofs.build_law.the_rows_of_a_world.Goals as goal

pub returns : goal.returns
returns c = rows_in_world
