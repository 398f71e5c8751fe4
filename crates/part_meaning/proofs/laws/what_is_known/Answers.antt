use Rattle.part_meaning.proofs.KnownLemmas.{texts_unknown}
use Rattle.part_meaning.proofs.MeaningLemmas.{is_meaning}
use Rattle.part_meaning.proofs.laws.what_is_known.Goals as goal

pub returns : goal.returns
returns c = record { sound = is_meaning; texts = texts_unknown }
