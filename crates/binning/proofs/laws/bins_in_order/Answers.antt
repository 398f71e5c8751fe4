use Rattle.binning.proofs.KeyOrderLemmas.{key_up}
use Rattle.binning.proofs.BinOrderLemmas.{bins_rise, ends_there}
use Rattle.binning.proofs.laws.bins_in_order.Goals as goal

pub returns : goal.returns
returns c = record { keys = key_up; ranges = bins_rise; there = ends_there }
