use Rattle.three_valued.proofs.SoundLemmas.{definite_le, possible_ge}
use Rattle.three_valued.proofs.laws.estimates_enclose.Goals as goal

pub returns : goal.returns
returns c = record { definite = definite_le; possible = possible_ge }
