use Rattle.std.proofs.Common.{◌≡◌, map, take}
use Rattle.world.specs.IndexFiles.{edge_of}
use Rattle.index_build.proofs.writing.edges_of.Given as goal

abbrev pub invariant-loop-bin : goal.invariant-loop-bin
invariant-loop-bin l = l.edges.items ≡ map edge_of (take l.bin-index l.bins)
