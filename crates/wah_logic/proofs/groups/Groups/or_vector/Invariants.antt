use Rattle.std.proofs.Common.{◌≡◌, ◌+◌}
use Rattle.wah_words.specs.Spelling.{words_of}
use Rattle.wah_logic.proofs.GroupLemmas.{Gathers}
use Rattle.wah_logic.proofs.groups.Groups.or_vector.Given as goal

abbrev pub invariant-loop-run : goal.invariant-loop-run
invariant-loop-run g l = record {
  gathers : Gathers l.fn.self l.vector l.self l.cursor.values l.group;
  steps : l.steps + l.cursor.words ≡ l.fn.steps + words_of l.vector;
}

abbrev pub decreases-loop-run : goal.decreases-loop-run
decreases-loop-run g l = l.cursor.words
