use Rattle.std.proofs.Common.{◌≡◌, ◌+◌, ◌≤◌, ◌<◌, length, get_or, false}
use Rattle.wah_words.specs.Limits.{most_bits}
use Rattle.wah_words.specs.Spelling.{words_of}
use Rattle.wah_iter.proofs.counts.get.Given as goal

abbrev pub invariant-loop-run : goal.invariant-loop-run
invariant-loop-run g l = record { there : l.left < length l.cursor.values; same : get_or l.cursor.values l.left false ≡ get_or l.v l.place false; within : length l.cursor.values ≤ most_bits; steps : l.steps + l.cursor.words ≡ l.initial.steps + words_of l.v }

abbrev pub decreases-loop-run : goal.decreases-loop-run
decreases-loop-run g l = l.cursor.words
