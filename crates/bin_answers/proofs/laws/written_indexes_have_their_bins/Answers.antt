use Rattle.bin_answers.proofs.WrittenLemmas.{written_has}
use Rattle.bin_answers.proofs.laws.written_indexes_have_their_bins.Goals as goal

pub returns : goal.returns
returns c = λ m head mask bins h. written_has m head mask bins h
