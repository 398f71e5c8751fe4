use Rattle.std.proofs.Common.{◌≡◌, drop}
use Rattle.std.specs.Prelude.{fold}
use Rattle.select_group.specs.Keys.{cells_input}
use Rattle.select_group.proofs.keys.feed_all.Given as goal

abbrev pub invariant-loop-cell : goal.invariant-loop-cell
invariant-loop-cell g l = fold g.H.Hasher.write l.state (cells_input (drop l.cell-index l.cells)) ≡ fold g.H.Hasher.write l.fn.state (cells_input l.cells)
