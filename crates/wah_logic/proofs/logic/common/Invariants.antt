use Rattle.std.proofs.Common.{◌≡◌, ◌+◌, ◌≤◌, length}
use Rattle.wah_words.specs.Limits.{most_bits}
use Rattle.wah_words.specs.Spelling.{words_of}
use Rattle.wah_logic.specs.Logic.{each_place, and, ones}
use Rattle.wah_logic.specs.Rest.{looks}
use Rattle.wah_logic.proofs.logic.common.Given as goal

abbrev pub invariant-loop-run : goal.invariant-loop-run
invariant-loop-run g l = record {
  ones : l.count + ones (each_place and l.x.values l.y.values) ≡ ones (each_place and l.a l.b);
  within : length l.x.values ≤ most_bits;
  same : length l.x.values ≡ length l.y.values;
  steps : l.steps + l.x.words + l.y.words ≡ l.fn.steps + words_of l.a + words_of l.b;
}

abbrev pub decreases-loop-run : goal.decreases-loop-run
decreases-loop-run g l = looks l.x + looks l.y
