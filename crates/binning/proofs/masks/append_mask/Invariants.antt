use Rattle.std.proofs.Common.{◌≡◌, ◌+◌, ◌≤◌, ◌++◌, length}
use Rattle.wah_words.specs.Limits.{most_bits}
use Rattle.wah_words.specs.Spelling.{words_of}
use Rattle.binning.proofs.masks.append_mask.Given as goal

abbrev pub invariant-loop-run : goal.invariant-loop-run
invariant-loop-run g l = record {
  values : l.present.items ++ l.cursor.values ≡ l.initial.present.items ++ l.mask;
  limit : length l.cursor.values ≤ most_bits;
  steps : l.steps + l.cursor.words ≡ l.initial.steps + words_of l.mask;
}

abbrev pub decreases-loop-run : goal.decreases-loop-run
decreases-loop-run g l = l.cursor.words
