use Rattle.part_meaning.proofs.KnownLemmas.{definite_held, held_possible}
use Rattle.part_meaning.proofs.laws.estimates_enclose_hits.Goals as goal

pub returns : goal.returns
returns c = record { definite = definite_held; possible = held_possible }
