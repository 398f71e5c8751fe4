use Rattle.std.proofs.Common.{◌≡◌, ◌+◌, length, take, vec_len}
use Rattle.std.specs.Vec.{vec_capacity}
use Rattle.wah_words.proofs.writing.copy_words.Given as goal

abbrev pub invariant-loop-word : goal.invariant-loop-word
invariant-loop-word g l = record {
  items : l.copied.items ≡ take l.word-index l.words;
  len : vec_len l.copied ≡ l.word-index;
  capacity : vec_capacity l.copied ≡ length l.words;
  steps : l.steps ≡ l.fn.steps + l.word-index;
}
