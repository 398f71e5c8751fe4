use Rattle.std.proofs.Common.{◌≡◌, ◌++◌, take}
use Rattle.std.specs.List.{flat_map}
use Rattle.index_file.specs.IndexFile.{edge_bytes}
use Rattle.index_file.proofs.writing.push_edges.Given as goal

abbrev pub invariant-loop-edge : goal.invariant-loop-edge
invariant-loop-edge l = l.bytes.items ≡ l.fn.bytes.items ++ flat_map edge_bytes (take l.edge-index l.edges)
