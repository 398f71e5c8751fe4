use Rattle.std.proofs.Common.{◌≡◌, take}
use Rattle.binning.specs.Groups.{pairs_from}
use Rattle.binning.proofs.groups.key_places.Given as goal

abbrev pub invariant-loop-place : goal.invariant-loop-place
invariant-loop-place l = l.pairs.items ≡ pairs_from 0 (take l.place l.groups)
