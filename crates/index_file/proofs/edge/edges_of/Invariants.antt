use Rattle.std.proofs.Common.{◌≡◌, map, take}
use Rattle.index_file.specs.Opening.{edge_at}
use Rattle.index_file.proofs.edge.edges_of.Given as goal

abbrev pub invariant-loop-piece : goal.invariant-loop-piece
invariant-loop-piece l = l.edges.items ≡ map edge_at (take l.piece-index l.pieces)
