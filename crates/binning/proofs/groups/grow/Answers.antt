use Rattle.std.proofs.Common.{◌≡◌, rules}
use Rattle.std.specs.Int.{w128, int_min, int_max}
use Rattle.std.proofs.lemmas.Int.{to_z-of_z}
use mir.Val.{SFits}
use Rattle.binning.proofs.GroupLemmas.{grown_set_at}
use Rattle.binning.proofs.groups.grow.Goals as goal

pub returns : goal.returns
returns c =
    let g = c.index_mut-group.result.now in
    let fits_v : SFits w128 c.args.v = c.ranges.v in
    let fits_least : SFits w128 g.least = search rules in
    let fits_greatest : SFits w128 g.greatest = search rules in
    let fits_min : SFits w128 c.min-group.result = search rules in
    let fits_max : SFits w128 c.max-group.result = search rules in
    let least : c.min-group.result ≡ int_min g.least c.args.v = simp to_z-of_z at c.min-group.ensures.value in
    let greatest : c.max-group.result ≡ int_max g.greatest c.args.v = simp to_z-of_z at c.max-group.ensures.value in
    rw (to_z-of_z w128 c.min-group.result fits_min, to_z-of_z w128 c.max-group.result fits_max, least, greatest) (grown_set_at c.args.groups.now.items c.args.place c.args.v g c.requires c.index_mut-group.ensures.value)
