use Rattle.std.proofs.Common.{◌≡◌, ◌+◌, ◌%◌, ◌<◌, ◌≤◌, ◌++◌, length}
use Rattle.wah_words.specs.Spelling.{words_of}
use Rattle.wah_logic.specs.Logic.{each_place}
use Rattle.wah_logic.specs.Rest.{looks}
use Rattle.wah_logic.proofs.logic.combine.Given as goal

abbrev pub invariant-loop-run : goal.invariant-loop-run
invariant-loop-run g l = record {
  values : l.out.values ++ each_place g.O.BitOp.op l.x.values l.y.values ≡ each_place g.O.BitOp.op l.a l.b;
  same : length l.x.values ≡ length l.y.values;
  aligned : 0 < length l.x.values → length l.out.values % 31 ≡ 0;
  room : looks l.x + looks l.y ≤ l.out.spare;
  words : words_of l.out.values + (looks l.x + looks l.y) ≤ words_of l.a + words_of l.b;
  steps : l.steps + l.x.words + l.y.words ≡ l.fn.steps + words_of l.a + words_of l.b;
}

abbrev pub decreases-loop-run : goal.decreases-loop-run
decreases-loop-run g l = looks l.x + looks l.y
