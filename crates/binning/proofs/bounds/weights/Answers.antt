use Rattle.std.proofs.Common.{◌≡◌, ◌∙◌, ap, arith}
use Rattle.binning.specs.Keys.{sorted}
use Rattle.binning.specs.Bins.{present, cells}
use Rattle.binning.proofs.KeyLemmas.{sort_is}
use Rattle.binning.proofs.bounds.weights.Goals as goal

pub weight_bounds-requires-clause-sorted : goal.weight_bounds-requires-clause-sorted
weight_bounds-requires-clause-sorted g c = rw c.deref.ensures.value c.sort_unstable.ensures.sorted

pub weight_bounds-requires-clause-limit : goal.weight_bounds-requires-clause-limit
weight_bounds-requires-clause-limit g c = omega (arith, c.in_ok-sorted.ensures.few, c.sort_unstable.ensures.len, c.deref.ensures.len)

pub returns-clause-bounds : goal.returns-clause-bounds
returns-clause-bounds g c =
    let e : c.deref.result.now ≡ sorted (present (cells c.args.mask.now c.args.values.now)) = c.deref.ensures.value ∙ sort_is _ _ c.sort_unstable.ensures.permutation c.sort_unstable.ensures.sorted ∙ ap sorted c.in_ok-sorted.ensures.values in
    rw (← e) c.weight_bounds.ensures
