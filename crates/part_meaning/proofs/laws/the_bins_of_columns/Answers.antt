use Rattle.part_meaning.proofs.UnionLemmas.{bin_encloses, bins_all, bins_apart}
use Rattle.part_meaning.proofs.laws.the_bins_of_columns.Goals as goal

pub returns : goal.returns
returns c = record { apart = bins_apart; all = bins_all; ends = bin_encloses }
