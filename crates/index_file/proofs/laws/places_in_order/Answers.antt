use Rattle.index_file.proofs.PlacesLemmas.{places_right}
use Rattle.index_file.proofs.laws.places_in_order.Goals as goal

pub returns : goal.returns
returns c = λ head size places h. places_right head size places h
