use Rattle.std.proofs.Common.{◌≡◌, ◌++◌, length, take}
use Rattle.std.specs.Int.{w32, to_le_bytes}
use Rattle.text_column.specs.DictionaryFile.{words_bytes}
use Rattle.text_column.proofs.dictionary.Dictionary.to_bytes.Given as goal

abbrev pub invariant-loop-place : goal.invariant-loop-place
invariant-loop-place l = l.bytes.items ≡ to_le_bytes w32 (length l.self) ++ words_bytes (take l.place l.self)
