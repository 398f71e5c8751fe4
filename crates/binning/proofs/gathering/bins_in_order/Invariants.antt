use Rattle.std.proofs.Common.{◌≡◌, map, take}
use Rattle.binning.specs.BinFor.{bin_for}
use Rattle.binning.proofs.gathering.bins_in_order.Given as goal

abbrev pub invariant-loop-pair : goal.invariant-loop-pair
invariant-loop-pair l = l.bins.items ≡ map (λ pair. bin_for l.groups l.places pair.place) (take l.pair-index l.order)
