use Rattle.std.proofs.Common.{◌≡◌, ◌-◌, ◌^◌, ◌<◌, inl, inr, true, replicate, arith}
use Rattle.std.specs.Int.Count.{count_leading_zeros}
use Rattle.wah_iter.specs.Rows.{runs_from}
use Rattle.wah_iter.proofs.WalkLaws.{is_top}
use Rattle.wah_iter.proofs.RunLaws.{is_first_run, begins_word, begins_range}
use Rattle.wah_iter.proofs.piece.first_one.Goals as goal

pub overflow_sub-result : goal.overflow_sub-result
overflow_sub-result c = omega (arith, (is_top c.args.piece.now.word c.if-piece-gt0.true c.requires.piece.word_fits).some)

pub returns-then-piece-gt0 : goal.returns-then-piece-gt0
returns-then-piece-gt0 c =
    let p = c.args.piece.now in
    let t = is_top p.word c.if-piece-gt0.true c.requires.piece.word_fits in
    let z = count_leading_zeros 32 p.word in
    record { runs = λ rs. begins_word p.base p.word z (count_leading_zeros 32 (2 ^ (32 - z) - 1 - p.word)) (runs_from p.next (replicate (p.end - p.next) true) rs) t (is_first_run p.word z t) }

pub returns : goal.returns
returns c =
    let p = c.args.piece.now in
    let none : p.word ≡ 0 = omega (arith, c.if-piece-gt0.false) in
    let some : p.next < p.end = (elim c.requires.some [ inl h ↦ omega (arith, h, none) | inr h ↦ h ]) in
    record { runs = λ rs. begins_range p.base p.word p.next p.end rs none some }
