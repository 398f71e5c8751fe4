use Rattle.std.proofs.Common.{◌≡◌, ◌+◌, ◌*◌, ◌++◌, take, vec_len}
use Rattle.std.specs.Vec.{vec_capacity}
use Rattle.wah_words.specs.Bytes.{decoded_all, words_bytes}
use Rattle.wah_words.proofs.writing.append_words.Given as goal

abbrev pub invariant-loop-word : goal.invariant-loop-word
invariant-loop-word g l = record {
  items : l.bytes.items ≡ l.fn.bytes.items ++ words_bytes (decoded_all (take l.word-index l.words));
  len : vec_len l.bytes ≡ vec_len l.fn.bytes + 4 * l.word-index;
  capacity : vec_capacity l.bytes ≡ vec_capacity l.fn.bytes;
  steps : l.steps ≡ l.fn.steps + l.word-index;
}
