use Rattle.std.proofs.Common.{◌≡◌, ◌||◌, ◌<◌, ◌-◌, ◌*◌, ◌/◌, ◌∙◌, sym, ap, get_or, length, pos, ◌≤ℤ◌, refl, arith, rules, ℤ}
use Rattle.std.specs.Int.{w128}
use Rattle.std.specs.List.{AllByRecursion}
use Rattle.std.specs.Ordering.{int_eq}
use Rattle.std.proofs.lemmas.Int.{to_z-of_z}
use mir.Val.{SFits}
use Rattle.binning.specs.Keys.{rising}
use Rattle.binning.specs.Gathered.{is_in}
use Rattle.binning.proofs.BoundLemmas.{weight_bound, cut_start, cut_more, cut_end, weight_up, weight_bounds_some, weight_bounds_none}
use Rattle.binning.proofs.bounds.weight_bounds.Goals as goal

pub returns-then-sorted-eq0 : goal.returns-then-sorted-eq0
returns-then-sorted-eq0 c =
    let none : length c.args.sorted.now ≡ 0 = omega arith in
    rw (c.new-bounds.ensures.items, weight_bounds_none c.args.count c.args.sorted.now none) refl

pub loop-j-init : goal.loop-j-init
loop-j-init c = cut_start (weight_bound c.args.count c.args.sorted.now) 1 c.args.count _ c.new-bounds.ensures.items

pub push_bound-requires-clause-least : goal.push_bound-requires-clause-least
push_bound-requires-clause-least c =
    let vs = c.args.sorted.now in
    let fits : SFits w128 (get_or vs (c.loop-j.j * length vs / c.args.count) (pos 0)) = search rules in
    simp to_z-of_z (c.loop-j.invariant.least (omega arith))

pub loop-j-preserved : goal.loop-j-preserved
loop-j-preserved c =
    let vs = c.args.sorted.now in
    let j = c.loop-j.j in
    let some : 0 < length vs = omega arith in
    let fits : SFits w128 (get_or vs (j * length vs / c.args.count) (pos 0)) = search rules in
    let new = c.push_bound.new.bounds.items in
    let least : AllByRecursion (λ b. b ≤ℤ weight_bound c.args.count vs j) new = simp to_z-of_z at c.in_ok-push_bound.ensures.least in
    let has : (v : ℤ) → is_in v new ≡ (is_in v c.loop-j.bounds.items || int_eq v (weight_bound c.args.count vs j)) = simp to_z-of_z at c.in_ok-push_bound.ensures.has in
    cut_more (weight_bound c.args.count vs) 1 c.args.count j c.loop-j.bounds.items new (omega arith) c.loop-j.invariant (λ h. weight_up c.args.count j vs c.requires.sorted some h) c.in_ok-push_bound.ensures.rises least has

pub returns : goal.returns
returns c =
    let some : 0 < length c.args.sorted.now = omega arith in
    let n : c.loop-j.j - 1 ≡ c.args.count - 1 = omega arith in
    cut_end (weight_bound c.args.count c.args.sorted.now) 1 c.args.count c.loop-j.j (c.args.count - 1) _ c.loop-j.invariant n ∙ ap rising (sym (weight_bounds_some c.args.count c.args.sorted.now some))
