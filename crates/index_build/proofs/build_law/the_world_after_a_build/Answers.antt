use Rattle.index_build.proofs.BuiltLemmas.{stands_built}
use Rattle.index_build.proofs.build_law.the_world_after_a_build.Goals as goal

pub returns : goal.returns
returns c = stands_built
