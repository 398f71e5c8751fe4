use Rattle.world.proofs.BuiltLemmas.{Stands-built}
use Rattle.world.proofs.the_files_after_a_build.Goals as goal

pub returns : goal.returns
returns c files world path content place part col column spec there listed in_schema can h =
    Stands-built files world path content place part col column spec there listed in_schema h can
