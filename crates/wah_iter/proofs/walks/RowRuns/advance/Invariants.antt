use Rattle.std.proofs.Common.{◌≡◌, ◌+◌, ◌<◌, ◌≤◌, length}
use Rattle.wah_words.specs.Limits.{most_bits}
use Rattle.wah_iter.specs.Rows.{before}
use Rattle.wah_iter.specs.Walks.{runs_left, IsPiece, BeginsAfter, size}
use Rattle.wah_iter.proofs.walks.RowRuns.advance.Given as goal

abbrev pub invariant-loop-self : goal.invariant-loop-self
invariant-loop-self g l = record {
  runs : before l.first l.past (runs_left l.self-inside.piece.word l.self-inside.piece.base l.self-inside.piece.next l.self-inside.piece.end l.self-inside.cursor.values) ≡ l.fn.self.runs;
  piece : IsPiece l.self-inside.piece.word l.self-inside.piece.base l.self-inside.piece.next l.self-inside.piece.end;
  apart : l.past < l.self-inside.piece.end → BeginsAfter l.past (runs_left l.self-inside.piece.word l.self-inside.piece.base l.self-inside.piece.next l.self-inside.piece.end l.self-inside.cursor.values);
  limit : l.self-inside.piece.end + length l.self-inside.cursor.values ≤ most_bits;
  steps : l.steps + l.self-inside.cursor.words ≡ l.fn.steps + l.fn.self.words;
}

abbrev pub decreases-loop-self : goal.decreases-loop-self
decreases-loop-self g l = size l.self-inside.piece.word l.self-inside.piece.next l.self-inside.piece.end l.self-inside.cursor.words
