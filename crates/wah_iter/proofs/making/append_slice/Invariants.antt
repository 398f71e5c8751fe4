use Rattle.std.proofs.Common.{◌≡◌, ◌+◌, ◌-◌, ◌*◌, ◌/◌, ◌≤◌, ◌++◌, length, take, drop, min}
use Rattle.wah_words.specs.Limits.{most_bits}
use Rattle.wah_words.specs.Spelling.{words_of}
use Rattle.wah_iter.proofs.making.append_slice.Given as goal

abbrev pub invariant-loop-left : goal.invariant-loop-left
invariant-loop-left g l = record {
  done : l.out.values ++ take l.left (drop l.skip l.cursor.values) ≡ l.initial.out.values ++ take l.count (drop l.first l.v);
  there : l.skip + l.left ≤ length l.cursor.values;
  within : length l.cursor.values ≤ most_bits;
  total : length l.out.values + l.left ≡ length l.initial.out.values + l.count;
  limit : length l.initial.out.values + l.count ≤ most_bits;
  room : min (2 * words_of l.v) ((length l.initial.out.values + l.count) / 31 - length l.initial.out.values / 31) ≤ l.initial.out.spare;
  spare : l.initial.out.spare + min (2 * l.cursor.words) ((length l.out.values + l.left) / 31 - length l.out.values / 31) ≤ l.out.spare + min (2 * words_of l.v) ((length l.initial.out.values + l.count) / 31 - length l.initial.out.values / 31);
  steps : l.steps + l.cursor.words ≡ l.initial.steps + words_of l.v;
}

abbrev pub decreases-loop-left : goal.decreases-loop-left
decreases-loop-left g l = l.cursor.words
