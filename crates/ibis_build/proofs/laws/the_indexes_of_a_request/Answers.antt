use Rattle.std.proofs.Common.{refl}
use Rattle.ibis_build.proofs.laws.the_indexes_of_a_request.Goals as goal

pub returns : goal.returns
returns c = refl
