use Rattle.std.proofs.Common.{◌≡◌, ◌+◌, ◌*◌, ◌%◌, ◌≤◌, ◌++◌, length, take, drop, replicate}
use Rattle.wah_words.specs.Limits.{most_bits}
use Rattle.wah_words.specs.Spelling.{words_of}
use Rattle.wah_logic.specs.Logic.{each_place}
use Rattle.wah_logic.specs.Rest.{looks}
use Rattle.wah_logic.proofs.put.put_beside.Given as goal

abbrev pub invariant-loop-ahead : goal.invariant-loop-ahead
invariant-loop-ahead g l = record {
  values : l.out.values ++ each_place g.O.BitOp.op (replicate (31 * l.ahead) l.bit) (take (31 * l.ahead) l.y.values) ≡ l.fn.out.values ++ each_place g.O.BitOp.op (replicate (31 * l.groups) l.bit) (take (31 * l.groups) l.fn.y.values);
  left : drop (31 * l.ahead) l.y.values ≡ drop (31 * l.groups) l.fn.y.values;
  enough : 31 * l.ahead ≤ length l.y.values;
  aligned : length l.out.values % 31 ≡ 0;
  limit : length l.out.values + 31 * l.ahead ≤ most_bits;
  words : words_of l.out.values + looks l.y ≤ words_of l.fn.out.values + looks l.fn.y;
  spare : l.fn.out.spare + looks l.y ≤ l.out.spare + looks l.fn.y;
  fewer : looks l.y ≤ looks l.fn.y;
  steps : l.steps + l.y.words ≡ l.fn.steps + l.fn.y.words;
}

abbrev pub decreases-loop-ahead : goal.decreases-loop-ahead
decreases-loop-ahead g l = l.ahead
