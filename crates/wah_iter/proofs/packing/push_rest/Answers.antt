use Rattle.std.proofs.Common.{◌*◌, ◌/◌, ◌-◌, ◌%◌, ◌++◌, ◌≤◌, [], length, take, sym, ap, ◌∙◌, arith}
use Rattle.std.proofs.lemmas.List.{take_all, append-nil}
use Rattle.wah_iter.specs.Rows.{rows_of}
use Rattle.wah_iter.proofs.RowLaws.{rows-zeros}
use Rattle.wah_iter.proofs.PackLaws.{group_more, no_rows}
use Rattle.wah_iter.proofs.packing.push_rest.Goals as goal

pub returns-then-count-gt0-clause-rows : goal.returns-then-count-gt0-clause-rows
returns-then-count-gt0-clause-rows c =
    let len = c.args.len in
    let n = c.word_of_rows-word.result.1 in
    let all = group_more c.args.out.now.values c.push_zeros.new.out.values c.push_tail.new.self.values (31 * (len / 31 - c.len.result / 31)) (len % 31) (len - len % 31) c.word_of_rows-word.result.0 (take n c.args.rows.now) c.push_zeros.ensures.values c.push_tail.ensures.values (omega (arith, c.len.ensures.length, c.requires.within, c.requires.aligned)) c.word_of_rows-word.ensures.rows in
    let none : length c.args.rows.now ≤ n = grind (arith, c.word_of_rows-word.ensures.past, c.requires.below n) in
    all.1 ∙ ap (λ l. rows_of c.args.out.now.values ++ l) (take_all n c.args.rows.now none)

pub returns-then-count-gt0-clause-length : goal.returns-then-count-gt0-clause-length
returns-then-count-gt0-clause-length c =
    let len = c.args.len in
    let all = group_more c.args.out.now.values c.push_zeros.new.out.values c.push_tail.new.self.values (31 * (len / 31 - c.len.result / 31)) (len % 31) (len - len % 31) c.word_of_rows-word.result.0 (take c.word_of_rows-word.result.1 c.args.rows.now) c.push_zeros.ensures.values c.push_tail.ensures.values (omega (arith, c.len.ensures.length, c.requires.within, c.requires.aligned)) c.word_of_rows-word.ensures.rows in
    omega (arith, all.0)

pub returns-else-count-gt0-clause-rows : goal.returns-else-count-gt0-clause-rows
returns-else-count-gt0-clause-rows c =
    let len = c.args.len in
    let none : length c.args.rows.now ≤ 0 = grind (arith, c.requires.from, c.requires.below 0, c.if-count-gt0.false) in
    rows-zeros c.args.out.now.values c.push_zeros.new.out.values (31 * (len / 31 - c.len.result / 31)) c.push_zeros.ensures.values ∙ sym (append-nil (rows_of c.args.out.now.values)) ∙ ap (λ l. rows_of c.args.out.now.values ++ l) (sym (no_rows c.args.rows.now none))
