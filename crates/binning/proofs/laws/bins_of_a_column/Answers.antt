use Rattle.binning.proofs.ColumnLemmas.{bins_are, bins_whole}
use Rattle.binning.proofs.laws.bins_of_a_column.Goals as goal

pub returns : goal.returns
returns c = record { apart = bins_are; all = bins_whole }
