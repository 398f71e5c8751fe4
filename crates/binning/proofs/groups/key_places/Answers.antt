use Rattle.std.proofs.Common.{◌≡◌, ◌+◌, ◌<◌, ◌∙◌, sym, length, get_or, pos, arith, rules}
use Rattle.std.specs.Int.{w128}
use Rattle.std.proofs.lemmas.Int.{to_z-of_z}
use mir.Val.{SFits}
use Rattle.binning.specs.declared.groups.Group.{Group}
use Rattle.binning.proofs.OrderLemmas.{pairs_more}
use Rattle.binning.proofs.groups.key_places.Goals as goal

pub loop-place-preserved : goal.loop-place-preserved
loop-place-preserved c =
    let d : Group = record { key = pos 0; least = pos 0; greatest = pos 0 } in
    let gs = c.args.groups.now in
    let i = c.loop-place.place in
    let within : i < length gs = c.loop-place-test.true in
    let fits : SFits w128 (get_or gs i d).key = search rules in
    let z : 0 + i ≡ i = omega arith in
    let more = rw z at (pairs_more 0 gs i d within) in
    c.in_ok-push.ensures.items ∙ (simp to_z-of_z (rw c.loop-place.invariant (sym more)))
