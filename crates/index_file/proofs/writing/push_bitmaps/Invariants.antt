use Rattle.std.proofs.Common.{◌≡◌, ◌++◌, ◌+◌, take, sum_by}
use Rattle.std.specs.List.{flat_map}
use Rattle.wah_words.specs.Bytes.{spelling}
use Rattle.wah_words.specs.Spelling.{words_of}
use Rattle.index_file.proofs.writing.push_bitmaps.Given as goal

abbrev pub invariant-loop-bitmap : goal.invariant-loop-bitmap
invariant-loop-bitmap g l = record {
  bytes : l.bytes.items ≡ l.fn.bytes.items ++ flat_map spelling (take l.bitmap-index l.bitmaps);
  steps : l.steps ≡ l.fn.steps + sum_by words_of (take l.bitmap-index l.bitmaps);
}
