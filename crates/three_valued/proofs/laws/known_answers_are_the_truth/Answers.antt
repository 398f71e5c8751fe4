use Rattle.three_valued.proofs.SoundLemmas.{decided_plans}
use Rattle.three_valued.proofs.laws.known_answers_are_the_truth.Goals as goal

pub returns : goal.returns
returns c = decided_plans
