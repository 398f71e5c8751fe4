use Rattle.dataset.proofs.WorldLemmas.{found_is, is_found}
use Rattle.dataset.proofs.laws.what_is_found_in_a_world.Goals as goal

pub returns : goal.returns
returns c = record { found = found_is; there = is_found }
