use Rattle.select_group.proofs.GroupLemmas.{keys_members, keys_rise}
use Rattle.select_group.proofs.laws.the_keys_of_groups.Goals as goal

pub returns : goal.returns
returns c = record { rise = keys_rise; same = keys_members }
