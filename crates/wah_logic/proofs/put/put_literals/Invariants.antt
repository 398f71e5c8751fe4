use Rattle.std.proofs.Common.{◌≡◌, ◌+◌, ◌%◌, ◌^◌, ◌<◌, ◌≤◌, ◌++◌, length}
use Rattle.wah_words.specs.Limits.{most_bits}
use Rattle.wah_words.specs.Places.{places}
use Rattle.wah_words.specs.Spelling.{words_of}
use Rattle.wah_logic.specs.Rest.{Puts, looks}
use Rattle.wah_logic.proofs.put.put_literals.Given as goal

abbrev pub invariant-loop-other : goal.invariant-loop-other
invariant-loop-other g l = record {
  puts : Puts g.O.BitOp.op (places 31 l.fn.word ++ l.fn.x.values) l.fn.y.values l.fn.out.values (places 31 l.word ++ l.x.values) l.y.values l.out.values;
  group : l.word < 2 ^ 31;
  same : 31 + length l.x.values ≡ length l.y.values;
  aligned : length l.out.values % 31 ≡ 0;
  limit : length l.out.values + length l.y.values ≤ most_bits;
  words : words_of l.out.values + looks l.x + looks l.y ≤ words_of l.fn.out.values + looks l.fn.x + looks l.fn.y;
  spare : l.fn.out.spare + looks l.x + looks l.y ≤ l.out.spare + looks l.fn.x + looks l.fn.y;
  fewer : looks l.x + looks l.y ≤ looks l.fn.x + looks l.fn.y;
  steps : l.steps + l.x.words + l.y.words ≡ l.fn.steps + l.fn.x.words + l.fn.y.words;
}

abbrev pub decreases-loop-other : goal.decreases-loop-other
decreases-loop-other g l = looks l.x + looks l.y
