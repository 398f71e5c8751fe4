use Rattle.std.proofs.Common.{◌≡◌, take}
use Rattle.binning.specs.Bins.{cells}
use Rattle.binning.specs.Listed.{row_values}
use Rattle.binning.proofs.listed.row_values.Given as goal

abbrev pub invariant-loop-row : goal.invariant-loop-row
invariant-loop-row l = l.pairs.items ≡ row_values 0 (cells (take l.row l.is_there) (take l.row l.values))
