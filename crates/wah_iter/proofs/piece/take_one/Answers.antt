use Rattle.std.proofs.Common.{◌≡◌, ℕ, ◌-◌, ◌*◌, ◌%◌, ◌^◌, ◌<◌, ◌++◌, inl, inr, true, replicate, ap, arith}
use Rattle.std.proofs.lemmas.Nat.{one_shl}
use Rattle.std.specs.Int.Count.{count_leading_zeros}
use Rattle.wah_iter.specs.Rows.{rows_from}
use Rattle.wah_iter.proofs.WalkLaws.{is_top, one_taken, next_taken}
use Rattle.wah_iter.proofs.piece.take_one.Goals as goal

pub overflow_sub-piece-then-piece-gt0 : goal.overflow_sub-piece-then-piece-gt0
overflow_sub-piece-then-piece-gt0 c =
    let w = c.args.piece.now.word in
    let t = is_top w c.if-piece-gt0.true c.requires.piece.word_fits in
    let z : ℕ = count_leading_zeros 32 w in
    let shl : 1 * 2 ^ (31 - count_leading_zeros 32 w) % 4294967296 ≡ 2 ^ (31 - count_leading_zeros 32 w) = one_shl (31 - count_leading_zeros 32 w) 32 (omega arith) in
    rw shl t.low

pub overflow_sub-result : goal.overflow_sub-result
overflow_sub-result c =
    let t = is_top c.args.piece.now.word c.if-piece-gt0.true c.requires.piece.word_fits in
    omega (arith, t.some)

pub returns-then-piece-gt0-clause-rows : goal.returns-then-piece-gt0-clause-rows
returns-then-piece-gt0-clause-rows c =
    let p = c.args.piece.now in
    let t = is_top p.word c.if-piece-gt0.true c.requires.piece.word_fits in
    let shl : 1 * 2 ^ (31 - count_leading_zeros 32 c.args.piece.now.word) % 4294967296 ≡ 2 ^ (31 - count_leading_zeros 32 c.args.piece.now.word) = one_shl (31 - count_leading_zeros 32 c.args.piece.now.word) 32 (omega arith) in
    rw shl (ap (λ l. l ++ rows_from p.next (replicate (p.end - p.next) true)) (one_taken p.base p.word (count_leading_zeros 32 p.word) t))

pub returns-clause-rows : goal.returns-clause-rows
returns-clause-rows c =
    let p = c.args.piece.now in
    let none : p.word ≡ 0 = omega (arith, c.if-piece-gt0.false) in
    let some : p.next < p.end = (elim c.requires.some [ inl h ↦ omega (arith, h, none) | inr h ↦ h ]) in
    next_taken p.base p.word p.next p.end none some
