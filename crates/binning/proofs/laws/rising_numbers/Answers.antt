use Rattle.binning.proofs.KeyLemmas.{rising-Rises, is_in-rising}
use Rattle.binning.proofs.laws.rising_numbers.Goals as goal

pub returns : goal.returns
returns c = record { rises = rising-Rises; same = is_in-rising }
