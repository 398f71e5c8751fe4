use Rattle.std.proofs.Common.{◌≡◌, map, take}
use Rattle.std.specs.Int.{w64, from_le_bytes}
use Rattle.text_column.proofs.texts.numbers_of.Given as goal

abbrev pub invariant-loop-piece : goal.invariant-loop-piece
invariant-loop-piece l = l.numbers.items ≡ map (from_le_bytes w64) (take l.piece-index l.pieces)
