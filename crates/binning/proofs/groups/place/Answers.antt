use Rattle.std.proofs.Common.{◌≡◌, ◌∙◌, sym, ap, List, ℤ, ℕ, Some, None, arith}
use Rattle.std.specs.Int.{w128}
use Rattle.std.proofs.lemmas.Int.{to_z-of_z}
use mir.Val.{SFits}
use Rattle.binning.specs.Gathered.{keys_in}
use Rattle.binning.specs.Groups.{place_if, grown}
use Rattle.binning.proofs.GroupLemmas.{place_found, place_missing, place_within, place_absent, length-keys_in, grown_with, keys_with}
use Rattle.binning.proofs.groups.place.Goals as goal

pub grow-requires : goal.grow-requires
grow-requires c =
    let items = c.args.groups.now.items in
    let fits : SFits w128 c.args.key = c.ranges.key in
    let e : Some c.in-Some.place ≡ place_if c.args.key (keys_in items) = rw (← c.deref.ensures.value) (simp to_z-of_z at c.in-Some.ensures.place) in
    let f = place_found c.args.key (keys_in items) c.in-Some.place e in
    omega (arith, f.1, place_within c.args.key (keys_in items) f.0, length-keys_in items)

pub returns-in-Some-clause-groups : goal.returns-in-Some-clause-groups
returns-in-Some-clause-groups c =
    let items = c.args.groups.now.items in
    let fits : SFits w128 c.args.key = c.ranges.key in
    let fits_v : SFits w128 c.args.v = c.ranges.v in
    let e : Some c.in-Some.place ≡ place_if c.args.key (keys_in items) = rw (← c.deref.ensures.value) (simp to_z-of_z at c.in-Some.ensures.place) in
    let f = place_found c.args.key (keys_in items) c.in-Some.place e in
    let g : c.grow.new.groups.items ≡ grown items c.in-Some.place c.args.v = simp to_z-of_z at c.grow.ensures in
    g ∙ ap (λ (n : ℕ). grown items n c.args.v) f.1 ∙ grown_with items c.args.key c.args.v f.0

pub returns-in-Some-clause-place : goal.returns-in-Some-clause-place
returns-in-Some-clause-place c =
    let items = c.args.groups.now.items in
    let fits : SFits w128 c.args.key = c.ranges.key in
    let e : Some c.in-Some.place ≡ place_if c.args.key (keys_in items) = rw (← c.deref.ensures.value) (simp to_z-of_z at c.in-Some.ensures.place) in
    (place_found c.args.key (keys_in items) c.in-Some.place e).1

pub returns-in-Some-clause-knows : goal.returns-in-Some-clause-knows
returns-in-Some-clause-knows c =
    let items = c.args.groups.now.items in
    let fits : SFits w128 c.args.key = c.ranges.key in
    let fits_v : SFits w128 c.args.v = c.ranges.v in
    let e : Some c.in-Some.place ≡ place_if c.args.key (keys_in items) = rw (← c.deref.ensures.value) (simp to_z-of_z at c.in-Some.ensures.place) in
    let f = place_found c.args.key (keys_in items) c.in-Some.place e in
    let g : c.grow.new.groups.items ≡ grown items c.in-Some.place c.args.v = simp to_z-of_z at c.grow.ensures in
    let ks : keys_in c.grow.new.groups.items ≡ keys_in items = ap keys_in (g ∙ ap (λ (n : ℕ). grown items n c.args.v) f.1 ∙ grown_with items c.args.key c.args.v f.0) ∙ keys_with items c.args.key c.args.v f.0 in
    λ k. rw c.find.ensures.same (c.requires.knows k ∙ ap (λ (xs : List ℤ). place_if k xs) (sym ks))

pub add_group-requires-clause-absent : goal.add_group-requires-clause-absent
add_group-requires-clause-absent c =
    let items = c.args.groups.now.items in
    let fits : SFits w128 c.args.key = c.ranges.key in
    let e : None ≡ place_if c.args.key (keys_in items) = rw (← c.deref.ensures.value) (simp to_z-of_z at c.in-None.ensures.place) in
    simp to_z-of_z (place_missing c.args.key (keys_in items) e)

pub returns-in-None-clause-place : goal.returns-in-None-clause-place
returns-in-None-clause-place c =
    let items = c.args.groups.now.items in
    let fits : SFits w128 c.args.key = c.ranges.key in
    let e : None ≡ place_if c.args.key (keys_in items) = rw (← c.deref.ensures.value) (simp to_z-of_z at c.in-None.ensures.place) in
    rw (place_absent c.args.key (keys_in items) (place_missing c.args.key (keys_in items) e), length-keys_in items) c.add_group.ensures.place
