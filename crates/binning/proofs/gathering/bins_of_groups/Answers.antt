use Rattle.std.proofs.Common.{◌∙◌, ap, List, map}
use Rattle.binning.specs.Gathered.{held}
use Rattle.binning.specs.BinFor.{bin_for}
use Rattle.binning.specs.declared.groups.KeyPlace.{KeyPlace}
use Rattle.binning.proofs.GatherLemmas.{bins_final, places_within}
use Rattle.binning.proofs.gathering.bins_of_groups.Goals as goal

pub bins_in_order-requires-clause-within : goal.bins_in_order-requires-clause-within
bins_in_order-requires-clause-within c = rw c.deref.ensures.value (places_within 0 c.args.groups.now c.in_ok-order.order.items c.in_ok-order.ensures.places)

pub returns : goal.returns
returns c =
    let gs = c.args.groups.now in
    let ps = c.args.places.now in
    λ rule column g.
    c.in_ok-bins.ensures
    ∙ ap (λ (o : List KeyPlace). map (λ pair. bin_for gs ps pair.place) o) c.deref.ensures.value
    ∙ bins_final (held rule gs ps) column c.in_ok-order.order.items c.requires.few c.in_ok-order.ensures g
