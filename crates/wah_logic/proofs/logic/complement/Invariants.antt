use Rattle.std.proofs.Common.{◌≡◌, ◌+◌, ◌%◌, ◌<◌, ◌≤◌, not, map, ◌++◌, length}
use Rattle.wah_words.specs.Spelling.{words_of}
use Rattle.wah_logic.specs.Rest.{looks}
use Rattle.wah_logic.proofs.logic.complement.Given as goal

abbrev pub invariant-loop-run : goal.invariant-loop-run
invariant-loop-run g l = record {
  values : l.out.values ++ map not l.x.values ≡ map not l.a;
  aligned : 0 < length l.x.values → length l.out.values % 31 ≡ 0;
  room : looks l.x ≤ l.out.spare;
  words : words_of l.out.values + looks l.x ≤ words_of l.a;
  steps : l.steps + l.x.words ≡ l.fn.steps + words_of l.a;
}

abbrev pub decreases-loop-run : goal.decreases-loop-run
decreases-loop-run g l = looks l.x
