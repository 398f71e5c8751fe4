use Rattle.std.proofs.Common.{◌≡◌, ◌+◌, ◌≤◌, length, count_by}
use Rattle.wah_words.specs.Limits.{most_bits}
use Rattle.wah_words.specs.Spelling.{words_of}
use Rattle.wah_iter.proofs.counts.count_ones.Given as goal

abbrev pub invariant-loop-ones : goal.invariant-loop-ones
invariant-loop-ones g l = record { counted : l.count + count_by (λ b. b) l.cursor.values ≡ count_by (λ b. b) l.v; most : count_by (λ b. b) l.v ≤ most_bits; steps : l.steps + l.cursor.words ≡ l.initial.steps + words_of l.v }

abbrev pub decreases-loop-ones : goal.decreases-loop-ones
decreases-loop-ones g l = l.cursor.words
