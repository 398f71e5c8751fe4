use Rattle.std.proofs.Common.{◌≡◌, ◌∷◌, ◌++◌, [], ◌∙◌, sym, ap, List, ℤ, length, cond, Some, arith, refl}
use Rattle.std.specs.Int.{w128}
use Rattle.std.specs.HashMap.{get}
use Rattle.std.specs.Ordering.{int_eq}
use Rattle.std.proofs.lemmas.Int.{to_z-of_z}
use mir.Val.{SFits}
use Rattle.binning.specs.Gathered.{keys_in}
use Rattle.binning.specs.Groups.{place_if}
use Rattle.binning.proofs.GroupLemmas.{with_new, keys_push, place_if_push, length-keys_in}
use Rattle.binning.proofs.groups.add_group.Goals as goal

pub returns-clause-groups : goal.returns-clause-groups
returns-clause-groups c =
    let fits_key : SFits w128 c.args.key = c.ranges.key in
    let fits_v : SFits w128 c.args.v = c.ranges.v in
    rw c.in_ok-push.ensures.items (simp to_z-of_z (sym (with_new c.args.groups.now.items c.args.key c.args.v c.requires.absent)))

pub returns-clause-knows : goal.returns-clause-knows
returns-clause-knows c =
    let fits_key : SFits w128 c.args.key = c.ranges.key in
    let fits_v : SFits w128 c.args.v = c.ranges.v in
    let items = c.args.groups.now.items in
    let n : c.len-place.result ≡ length (keys_in items) = rw length-keys_in (omega arith) in
    let ks : keys_in c.push.new.self.items ≡ keys_in items ++ c.args.key ∷ [] = rw c.in_ok-push.ensures.items (keys_push items _ ∙ (simp to_z-of_z refl)) in
    λ k.
    let u : get int_eq c.insert.new.self k ≡ cond (int_eq c.args.key k) (Some c.len-place.result) (get int_eq c.args.known.now.map k) = simp to_z-of_z at (c.in_ok-insert.ensures.updates.0 k) in
    u ∙ (rw (n, c.requires.knows k) (place_if_push k c.args.key (keys_in items) c.requires.absent)) ∙ ap (λ (xs : List ℤ). place_if k xs) (sym ks)
