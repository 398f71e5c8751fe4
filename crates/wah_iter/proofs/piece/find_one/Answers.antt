use Rattle.std.proofs.Common.{◌≡◌, ◌+◌, length, sym, ap, ◌∙◌, arith, length-append}
use Rattle.wah_words.specs.Left.{run_values}
use Rattle.wah_iter.proofs.WalkLaws.{left_empty, left_next}
use Rattle.wah_iter.proofs.RunLaws.{runs_left_empty, runs_left_next}
use Rattle.wah_iter.proofs.piece.find_one.Goals as goal

pub loop-piece-preserved : goal.loop-piece-preserved
loop-piece-preserved g c =
    let i = c.loop-piece.invariant in
    let h = c.in-Some.ensures.comes in
    let old = c.loop-piece.piece in
    let new = c.piece_of.result in
    let rv = run_values c.in-Some.run' in
    let rest = c.advance.new.self.values in
    let len : length c.loop-piece.cursor.values ≡ length rv + length rest = ap length h.0 ∙ length-append rv rest in
    record {
      piece = c.piece_of.ensures.piece;
      limit = omega (arith, len, c.piece_of.ensures.end, i.limit);
      rows = left_next new.word new.base new.next new.end old.end rv rest c.loop-piece.cursor.values c.piece_of.ensures.rows c.piece_of.ensures.end h.0 ∙ sym (left_empty old.word old.base old.next old.end c.loop-piece.cursor.values c.loop-piece-test.true c.if-piece.true) ∙ i.rows;
      runs = runs_left_next new.word new.base new.next new.end old.end rv rest c.loop-piece.cursor.values c.piece_of.ensures.runs c.piece_of.ensures.end h.0 ∙ sym (runs_left_empty old.word old.base old.next old.end c.loop-piece.cursor.values c.loop-piece-test.true c.if-piece.true) ∙ i.runs;
      less = omega (arith, i.less, h.1, c.piece_of.ensures.piece.word_fits, c.piece_of.ensures.piece.next_first, c.piece_of.ensures.piece.within);
      steps = omega (arith, i.steps, h.1, c.in-Some.ensures.steps);
    }
