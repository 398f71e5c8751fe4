use Rattle.std.proofs.Common.{◌≡◌, map, take}
use Rattle.binning.proofs.listed.rows_of_pairs.Given as goal

abbrev pub invariant-loop-pair : goal.invariant-loop-pair
invariant-loop-pair l = l.rows.items ≡ map (λ pair. pair.row) (take l.pair-index l.pairs)
