use Rattle.std.proofs.Common.{◌≡◌, ◌+◌, ◌-◌, ◌*◌, ◌/◌, ◌≤◌, ◌++◌, ◌⊎◌, inl, inr, length, take, drop, min, sym, ap, ◌∙◌, arith, length-append}
use Rattle.wah_words.specs.Left.{run_values}
use Rattle.wah_words.specs.Spelling.{words_of}
use Rattle.wah_iter.proofs.AppendLaws.{skip_run, take_run, length_part, more_done, spare_more, spare_less}
use Rattle.wah_iter.proofs.making.append_slice.Goals.{then-left-values, else-left-values}
use Rattle.wah_iter.proofs.making.append_slice.Goals as goal

pub loop-left-preserved-then-skip-values : goal.loop-left-preserved-then-skip-values
loop-left-preserved-then-skip-values g c =
    let i = c.loop-left.invariant in
    let h = c.in-Some.ensures.comes in
    let rv = run_values c.in-Some.run' in
    let rest = c.advance.new.self.values in
    let n : length rv ≡ c.len_of-values.result = sym c.len_of-values.ensures in
    let len : length c.loop-left.cursor.values ≡ length rv + length rest = ap length h.0 ∙ length-append rv rest in
    let skip : length rv ≤ c.loop-left.skip = omega (arith, n, c.if-skip-values.true) in
    let same : take c.loop-left.left (drop c.loop-left.skip c.loop-left.cursor.values) ≡ take c.loop-left.left (drop (c.loop-left.skip - c.len_of-values.result) rest) = skip_run c.loop-left.cursor.values rv rest c.loop-left.skip c.loop-left.left h.0 skip ∙ ap (λ k. take c.loop-left.left (drop (c.loop-left.skip - k) rest)) n in
    record {
      done = ap (λ l. c.loop-left.out.values ++ l) (sym same) ∙ i.done;
      there = omega (arith, i.there, len, n, skip);
      within = omega (arith, i.within, len);
      total = i.total;
      limit = i.limit;
      room = i.room;
      spare = spare_less c.args.out.now.spare (min (2 * words_of c.args.v.now) ((length c.args.out.now.values + c.args.count) / 31 - length c.args.out.now.values / 31)) c.advance.new.self.words ((length c.loop-left.out.values + c.loop-left.left) / 31 - length c.loop-left.out.values / 31) c.loop-left.out.spare (rw h.1 at i.spare);
      steps = omega (arith, i.steps, h.1, c.in-Some.ensures.steps);
    }

pub loop-left-preserved : goal.loop-left-preserved
loop-left-preserved g c =
    let i = c.loop-left.invariant in
    let h = c.in-Some.ensures.comes in
    let rv = run_values c.in-Some.run' in
    let rest = c.advance.new.self.values in
    let left = c.loop-left.left in
    let skip = c.loop-left.skip in
    let taken = c.if-left-values.taken in
    let out = c.loop-left.out.values in
    let n : length rv ≡ c.len_of-values.result = sym c.len_of-values.ensures in
    let len : length c.loop-left.cursor.values ≡ length rv + length rest = ap length h.0 ∙ length-append rv rest in
    let skip_less : skip ≤ length rv = omega (arith, n, c.if-skip-values.false) in
    let cases : (taken ≡ left) ⊎ ((taken + skip ≡ length rv) × (taken ≤ left)) = (elim c.if-left-values.branch [
      | then-left-values w ↦ inl w.taken-is
      | else-left-values w ↦ inr (omega (arith, n, w.taken-is, skip_less), omega (arith, w.taken-is, w.if-left-values.false))
    ]) in
    let within : taken + skip ≤ length rv = (elim c.if-left-values.branch [
      | then-left-values w ↦ omega (arith, n, w.taken-is, w.if-left-values.true)
      | else-left-values w ↦ omega (arith, n, w.taken-is, skip_less)
    ]) in
    let most : taken ≤ left = (elim c.if-left-values.branch [
      | then-left-values w ↦ omega (arith, w.taken-is)
      | else-left-values w ↦ omega (arith, w.taken-is, w.if-left-values.false)
    ]) in
    let part = take taken (drop skip rv) in
    let same : take left (drop skip c.loop-left.cursor.values) ≡ part ++ take (left - taken) rest = take_run c.loop-left.cursor.values rv rest skip left taken h.0 skip_less within cases in
    let new : length c.append_part.new.out.values ≡ length out + taken = ap length c.append_part.ensures.values ∙ length-append out part ∙ ap (λ k. length out + k) (length_part rv skip taken within) in
    let total : length out + taken + (left - taken) ≡ length out + left = omega (arith, most) in
    let old_spare = rw h.1 at i.spare in
    let most_spare = min (2 * words_of c.args.v.now) ((length c.args.out.now.values + c.args.count) / 31 - length c.args.out.now.values / 31) in
    record {
      done = more_done out c.append_part.new.out.values part rest (c.args.out.now.values ++ take c.args.count (drop c.args.first c.args.v.now)) (take left (drop skip c.loop-left.cursor.values)) (take (left - taken) rest) c.append_part.ensures.values same i.done;
      there = elim c.if-left-values.branch [
        | then-left-values w ↦ omega (arith, w.taken-is)
        | else-left-values w ↦ omega (arith, i.there, len, n, w.taken-is, skip_less)
      ];
      within = omega (arith, i.within, len);
      total = omega (arith, new, i.total, most);
      limit = i.limit;
      room = i.room;
      spare = rw (new, total) (spare_more c.args.out.now.spare most_spare c.advance.new.self.words (length out) (length out + left) taken c.loop-left.out.spare c.append_part.new.out.spare old_spare c.append_part.ensures.spare (omega (arith, most)));
      steps = omega (arith, i.steps, h.1, c.in-Some.ensures.steps);
    }
