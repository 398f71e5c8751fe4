use Rattle.std.proofs.Common.{◌≡◌, ◌<◌, ◌∙◌, sym, ap, length, get_or, pos, rules}
use Rattle.std.specs.Int.{w128}
use Rattle.std.proofs.lemmas.Int.{to_z-of_z}
use mir.Val.{SFits, to_z}
use Rattle.binning.specs.Gathered.{keys_in}
use Rattle.binning.specs.declared.groups.Group.{Group}
use Rattle.binning.proofs.GroupLemmas.{place_if_at, keys_in-get, length-keys_in}
use Rattle.binning.proofs.groups.if_at.Goals as goal

pub returns-then-groups-last : goal.returns-then-groups-last
returns-then-groups-last c =
    let d : Group = record { key = pos 0; least = pos 0; greatest = pos 0 } in
    let gs = c.args.groups.now in
    let within : c.args.last < length gs = c.if-last-groups.true in
    let fits : SFits w128 (get_or gs c.args.last d).key = search rules in
    let same : (get_or gs c.args.last d).key ≡ c.args.key = sym (to_z-of_z w128 (get_or gs c.args.last d).key fits) ∙ ap (to_z w128) c.if-groups-last.true ∙ to_z-of_z w128 c.args.key c.ranges.key in
    place_if_at (keys_in gs) c.args.last (pos 0) c.args.key c.requires.distinct (rw length-keys_in within) (keys_in-get gs c.args.last d (pos 0) within ∙ same)
