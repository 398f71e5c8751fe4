use Rattle.std.proofs.Common.{◌≡◌, ◌<◌, ◌++◌, ◌∙◌, sym, ap, arith, append_assoc, append-nil, List, Bool}
use Rattle.binning.proofs.MaskLemmas.{places_first, places_none}
use Rattle.binning.proofs.masks.append_places.Goals as goal

pub loop-left-preserved : goal.loop-left-preserved
loop-left-preserved c =
    let some : 0 < c.loop-left.left = omega arith in
    (omega arith, rw c.in_ok-push.ensures.items (append_assoc c.loop-left.present.items _ _ ∙ ap (λ (p : List Bool). c.loop-left.present.items ++ p) (sym (places_first c.loop-left.left c.args.bits some)) ∙ c.loop-left.invariant.1))

pub returns : goal.returns
returns c =
    let e : c.loop-left.left ≡ 0 = omega arith in
    sym (append-nil c.loop-left.present.items) ∙ (rw (e, places_none c.args.bits) at c.loop-left.invariant.1)
