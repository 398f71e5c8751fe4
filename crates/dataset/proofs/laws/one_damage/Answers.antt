use Rattle.dataset.proofs.DamageLemmas.{same_damage}
use Rattle.dataset.proofs.laws.one_damage.Goals as goal

pub returns : goal.returns
returns c = same_damage
