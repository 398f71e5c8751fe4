use Rattle.std.proofs.Common.{◌≡◌, ℤ, ◌||◌, ◌+◌, ◌∙◌, ◌≤ℤ◌, refl, arith, rules}
use Rattle.std.specs.Int.{w128}
use Rattle.std.proofs.lemmas.Int.{to_z-of_z}
use Rattle.std.specs.List.{AllByRecursion}
use Rattle.std.specs.Ordering.{int_eq}
use Rattle.binning.specs.Gathered.{is_in}
use mir.Val.{SFits, to_z, of_z}
use Rattle.binning.proofs.BoundLemmas.{width_bound, cut_start, cut_more, cut_end, width_up}
use Rattle.binning.proofs.bounds.width_bounds.Goals as goal

pub loop-j-init : goal.loop-j-init
loop-j-init c = cut_start (width_bound (to_z w128 (of_z w128 c.args.start)) (to_z w128 (of_z w128 c.args.end)) c.args.count) 0 (c.args.count + 1) _ c.new-bounds.ensures.items

pub push_bound-requires-clause-least : goal.push_bound-requires-clause-least
push_bound-requires-clause-least c =
    let fits : SFits w128 c.width_bound.result = search rules in
    simp to_z-of_z (rw c.width_bound.ensures (c.loop-j.invariant.least (omega arith)))

pub loop-j-preserved : goal.loop-j-preserved
loop-j-preserved c =
    let fits : SFits w128 c.width_bound.result = search rules in
    let start = to_z w128 (of_z w128 c.args.start) in
    let end = to_z w128 (of_z w128 c.args.end) in
    let e = c.width_bound.ensures in
    let new = c.push_bound.new.bounds.items in
    let least : AllByRecursion (λ b. b ≤ℤ width_bound start end c.args.count c.loop-j.j) new = rw (← e) (simp to_z-of_z at c.in_ok-push_bound.ensures.least) in
    let has : (v : ℤ) → is_in v new ≡ (is_in v c.loop-j.bounds.items || int_eq v (width_bound start end c.args.count c.loop-j.j)) = rw (← e) (simp to_z-of_z at c.in_ok-push_bound.ensures.has) in
    cut_more (width_bound start end c.args.count) 0 (c.args.count + 1) c.loop-j.j c.loop-j.bounds.items new (omega arith) c.loop-j.invariant (λ h. width_up start end c.args.count c.loop-j.j c.requires.some) c.in_ok-push_bound.ensures.rises least has

pub returns : goal.returns
returns c =
    let fits_start : SFits w128 c.args.start = c.ranges.start in
    let fits_end : SFits w128 c.args.end = c.ranges.end in
    cut_end (width_bound (to_z w128 (of_z w128 c.args.start)) (to_z w128 (of_z w128 c.args.end)) c.args.count) 0 (c.args.count + 1) c.loop-j.j (c.args.count + 1) _ c.loop-j.invariant (omega arith) ∙ (simp to_z-of_z refl)
