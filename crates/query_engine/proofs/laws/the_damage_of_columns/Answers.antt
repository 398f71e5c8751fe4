use Rattle.query_engine.proofs.FaultLemmas.{same_damage}
use Rattle.query_engine.proofs.laws.the_damage_of_columns.Goals as goal

pub returns : goal.returns
returns c = same_damage
