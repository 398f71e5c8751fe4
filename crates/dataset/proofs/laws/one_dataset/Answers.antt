use Rattle.dataset.proofs.SameLemmas.{same_dataset}
use Rattle.dataset.proofs.WorldLemmas.{undamaged}
use Rattle.dataset.proofs.laws.one_dataset.Goals as goal

pub returns : goal.returns
returns c = record { same = same_dataset; undamaged = undamaged }
