use Rattle.query_engine.proofs.LawLemmas.{parts_of_world}
use Rattle.query_engine.proofs.laws.the_parts_of_a_world.Goals as goal

pub returns : goal.returns
returns c = parts_of_world
