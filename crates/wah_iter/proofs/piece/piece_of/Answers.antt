use Rattle.std.proofs.Common.{◌+◌, ◌*◌, refl, sym, ap, arith}
use Rattle.wah_words.proofs.PlacesLemmas.{length-places}
use Rattle.wah_iter.proofs.WalkLaws.{fill_true, fill_false, word_rows, tail_fits, tail_rows}
use Rattle.wah_words.specs.Places.{places}
use Rattle.wah_iter.proofs.RunLaws.{fill_true_runs, fill_false_runs, word_runs, tail_runs}
use Rattle.wah_iter.proofs.piece.piece_of.Goals as goal

pub returns-then-bit-clause-rows : goal.returns-then-bit-clause-rows
returns-then-bit-clause-rows c = rw c.in-Fill.is (fill_true c.args.row (31 * c.in-Fill.groups) c.in-Fill.bit c.if-bit.true)

pub returns-else-bit-clause-rows : goal.returns-else-bit-clause-rows
returns-else-bit-clause-rows c = rw c.in-Fill.is (fill_false c.args.row (31 * c.in-Fill.groups) c.in-Fill.bit c.if-bit.false)

pub returns-in-Literal-clause-piece : goal.returns-in-Literal-clause-piece
returns-in-Literal-clause-piece c =
    let h = rw c.in-Literal.is at c.requires.limit in
    record { word_fits = rw c.in-Literal.is at c.requires.fits; base_first = omega arith; next_first = omega arith; within = omega (arith, h, length-places 31 c.in-Literal.word); alone = λ some. (refl, omega arith) }

pub returns-in-Literal-clause-end : goal.returns-in-Literal-clause-end
returns-in-Literal-clause-end c = rw c.in-Literal.is (ap (λ n. c.args.row + n) (sym (length-places 31 c.in-Literal.word)))

pub returns-in-Literal-clause-rows : goal.returns-in-Literal-clause-rows
returns-in-Literal-clause-rows c = rw c.in-Literal.is (word_rows c.args.row (c.args.row + 31) (places 31 c.in-Literal.word))

pub returns-in-Tail-clause-piece : goal.returns-in-Tail-clause-piece
returns-in-Tail-clause-piece c =
    let h = rw c.in-Tail.is at c.requires.limit in
    let f = rw c.in-Tail.is at c.requires.fits in
    record { word_fits = tail_fits c.in-Tail.bits c.in-Tail.count f.1 f.0; base_first = omega arith; next_first = omega arith; within = omega (arith, h, length-places c.in-Tail.count c.in-Tail.bits); alone = λ some. (refl, omega (arith, f.0)) }

pub returns-in-Tail-clause-end : goal.returns-in-Tail-clause-end
returns-in-Tail-clause-end c = rw c.in-Tail.is (ap (λ n. c.args.row + n) (sym (length-places c.in-Tail.count c.in-Tail.bits)))

pub returns-in-Tail-clause-rows : goal.returns-in-Tail-clause-rows
returns-in-Tail-clause-rows c =
    let f = rw c.in-Tail.is at c.requires.fits in
    rw c.in-Tail.is (tail_rows c.args.row c.in-Tail.bits c.in-Tail.count (c.args.row + c.in-Tail.count) f.1 f.0)

pub returns-then-bit-clause-runs : goal.returns-then-bit-clause-runs
returns-then-bit-clause-runs c = rw c.in-Fill.is (λ rs. fill_true_runs c.args.row (31 * c.in-Fill.groups) c.in-Fill.bit rs c.if-bit.true)

pub returns-else-bit-clause-runs : goal.returns-else-bit-clause-runs
returns-else-bit-clause-runs c = rw c.in-Fill.is (λ rs. fill_false_runs c.args.row (31 * c.in-Fill.groups) c.in-Fill.bit rs c.if-bit.false)

pub returns-in-Literal-clause-runs : goal.returns-in-Literal-clause-runs
returns-in-Literal-clause-runs c = rw c.in-Literal.is (λ rs. word_runs c.args.row (c.args.row + 31) (places 31 c.in-Literal.word) rs)

pub returns-in-Tail-clause-runs : goal.returns-in-Tail-clause-runs
returns-in-Tail-clause-runs c =
    let f = rw c.in-Tail.is at c.requires.fits in
    rw c.in-Tail.is (λ rs. tail_runs c.args.row c.in-Tail.bits c.in-Tail.count (c.args.row + c.in-Tail.count) rs f.1 f.0)
