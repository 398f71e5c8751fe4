use Rattle.std.proofs.Common.{◌≡◌, ◌+◌, ◌≤◌, length}
use Rattle.wah_words.specs.Limits.{most_bits}
use Rattle.wah_iter.specs.Walks.{rows_left, runs_left, IsPiece, size}
use Rattle.wah_iter.proofs.piece.find_one.Given as goal

abbrev pub invariant-loop-piece : goal.invariant-loop-piece
invariant-loop-piece g l = record {
  piece : IsPiece l.piece.word l.piece.base l.piece.next l.piece.end;
  limit : l.piece.end + length l.cursor.values ≤ most_bits;
  rows : rows_left l.piece.word l.piece.base l.piece.next l.piece.end l.cursor.values ≡ rows_left l.initial.piece.word l.initial.piece.base l.initial.piece.next l.initial.piece.end l.initial.cursor.values;
  runs : runs_left l.piece.word l.piece.base l.piece.next l.piece.end l.cursor.values ≡ runs_left l.initial.piece.word l.initial.piece.base l.initial.piece.next l.initial.piece.end l.initial.cursor.values;
  less : size l.piece.word l.piece.next l.piece.end l.cursor.words ≤ size l.initial.piece.word l.initial.piece.next l.initial.piece.end l.initial.cursor.words;
  steps : l.steps + l.cursor.words ≡ l.initial.steps + l.initial.cursor.words;
}

abbrev pub decreases-loop-piece : goal.decreases-loop-piece
decreases-loop-piece g l = l.cursor.words
