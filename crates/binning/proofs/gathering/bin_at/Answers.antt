use Rattle.std.proofs.Common.{◌≡◌, ◌<◌, ◌∙◌, ap, List, [], ℕ, length, get_or, map, eqb, pos, arith, rules, refl}
use Rattle.std.specs.Int.{w128}
use Rattle.std.proofs.lemmas.Int.{to_z-of_z}
use Rattle.std.proofs.lemmas.List.FromFn.{get_or-map-range_with_len, length-map-range_with_len}
use Rattle.std.specs.List.{range_with_len}
use mir.Val.{SFits}
use Rattle.binning.specs.Groups.{rows_at}
use Rattle.binning.specs.declared.groups.Group.{Group}
use Rattle.binning.proofs.OrderLemmas.{rows_rise, rows_at_below, rows_tell}
use Rattle.binning.proofs.gathering.bin_at.Goals as goal

pub at-at_place-requires : goal.at-at_place-requires
at-at_place-requires c = rw (c.requires.rows, length-map-range_with_len (rows_at c.args.places.now) 0 (length c.args.groups.now)) c.requires.within

place_rows : (rows : List (List ℕ)) (places : List ℕ) (n place : ℕ) (d : List ℕ) → rows ≡ map (rows_at places) (range_with_len 0 n) → place < n → get_or rows place d ≡ rows_at places place
place_rows rows places n place d e within = ap (λ (rs : List (List ℕ)). get_or rs place d) e ∙ get_or-map-range_with_len (rows_at places) 0 n place place d within (omega arith)

pub from_rows-requires-clause-rising : goal.from_rows-requires-clause-rising
from_rows-requires-clause-rising c =
    let e : c.at-at_place.result.now ≡ rows_at c.args.places.now c.args.place = c.at-at_place.ensures ∙ place_rows c.args.rows.now c.args.places.now (length c.args.groups.now) c.args.place [] c.requires.rows c.requires.within in
    rw e (λ i h. rows_rise 0 (map (λ p. eqb p c.args.place) c.args.places.now) i h)

pub from_rows-requires-clause-below : goal.from_rows-requires-clause-below
from_rows-requires-clause-below c =
    let e : c.at-at_place.result.now ≡ rows_at c.args.places.now c.args.place = c.at-at_place.ensures ∙ place_rows c.args.rows.now c.args.places.now (length c.args.groups.now) c.args.place [] c.requires.rows c.requires.within in
    rw e (λ i h. rows_at_below c.args.places.now c.args.place i h)

pub returns : goal.returns
returns c =
    let d : Group = record { key = pos 0; least = pos 0; greatest = pos 0 } in
    let e : c.at-at_place.result.now ≡ rows_at c.args.places.now c.args.place = c.at-at_place.ensures ∙ place_rows c.args.rows.now c.args.places.now (length c.args.groups.now) c.args.place [] c.requires.rows c.requires.within in
    let fits_least : SFits w128 (get_or c.args.groups.now c.args.place d).least = search rules in
    let fits_greatest : SFits w128 (get_or c.args.groups.now c.args.place d).greatest = search rules in
    let r = rows_tell c.args.places.now c.args.place c.in_ok-from_rows.field-0 c.in_ok-from_rows.ensures.length (c.in_ok-from_rows.ensures.rows ∙ e) in
    simp to_z-of_z (rw r refl)
