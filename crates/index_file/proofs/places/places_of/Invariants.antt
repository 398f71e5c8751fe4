use Rattle.std.proofs.Common.{◌≡◌, map, take}
use Rattle.std.specs.Int.{w64, from_le_bytes}
use Rattle.index_file.proofs.places.places_of.Given as goal

abbrev pub invariant-loop-piece : goal.invariant-loop-piece
invariant-loop-piece l = l.places.items ≡ map (from_le_bytes w64) (take l.piece-index l.pieces)
