use Rattle.three_valued.proofs.SoundLemmas.{sound_plans}
use Rattle.three_valued.proofs.laws.sound_answers.Goals as goal

pub returns : goal.returns
returns c = sound_plans
