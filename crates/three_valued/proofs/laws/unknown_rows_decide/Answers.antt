use Rattle.three_valued.proofs.SoundLemmas.{known_plans, settled_plans}
use Rattle.three_valued.proofs.laws.unknown_rows_decide.Goals as goal

pub returns : goal.returns
returns c = record { known = known_plans; settled = settled_plans }
