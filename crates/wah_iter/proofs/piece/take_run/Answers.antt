use Rattle.std.proofs.Common.{◌≡◌, ◌-◌, ◌*◌, ◌%◌, ◌^◌, ◌<◌, inl, inr, true, replicate, arith}
use Rattle.std.proofs.lemmas.Nat.{one_shl}
use Rattle.wah_iter.specs.Rows.{runs_from}
use Rattle.wah_iter.specs.Walks.{runs_left, BeginsAfter}
use Rattle.wah_iter.proofs.RunLaws.{run_taken, run_less, range_taken, apart_word}
use Rattle.wah_iter.proofs.piece.take_run.Goals as goal

pub returns-clause-runs : goal.returns-clause-runs
returns-clause-runs c =
    let p = c.args.piece.now in
    let none : p.word ≡ 0 = omega (arith, c.if-piece-gt0.false) in
    let some : p.next < p.end = (elim c.requires.some [ inl h ↦ omega (arith, h, none) | inr h ↦ h ]) in
    λ rs. range_taken p.base p.word p.next p.end rs none some

pub returns-then-piece-gt0-clause-runs : goal.returns-then-piece-gt0-clause-runs
returns-then-piece-gt0-clause-runs c =
    let p = c.args.piece.now in
    let r = c.first_run-above in
    let shl : 1 * 2 ^ (32 - c.first_run-above.result.1) % 4294967296 ≡ 2 ^ (32 - c.first_run-above.result.1) = one_shl (32 - c.first_run-above.result.1) 32 (omega (arith, r.ensures.run.after)) in
    rw shl (λ rs. run_taken p.base p.word r.result.0 r.result.1 (runs_from p.next (replicate (p.end - p.next) true) rs) r.ensures.top r.ensures.run)

pub returns-then-piece-gt0-clause-less : goal.returns-then-piece-gt0-clause-less
returns-then-piece-gt0-clause-less c =
    let p = c.args.piece.now in
    let r = c.first_run-above in
    let shl : 1 * 2 ^ (32 - c.first_run-above.result.1) % 4294967296 ≡ 2 ^ (32 - c.first_run-above.result.1) = one_shl (32 - c.first_run-above.result.1) 32 (omega (arith, r.ensures.run.after)) in
    rw shl (omega (arith, run_less p.word r.result.0 r.result.1 r.ensures.run))

pub returns-clause-less : goal.returns-clause-less
returns-clause-less c =
    let p = c.args.piece.now in
    let none : p.word ≡ 0 = omega (arith, c.if-piece-gt0.false) in
    let some : p.next < p.end = (elim c.requires.some [ inl h ↦ omega (arith, h, none) | inr h ↦ h ]) in
    omega (arith, some)

pub returns-then-piece-gt0-clause-apart : goal.returns-then-piece-gt0-clause-apart
returns-then-piece-gt0-clause-apart c =
    let p = c.args.piece.now in
    let r = c.first_run-above in
    let shl : 1 * 2 ^ (32 - c.first_run-above.result.1) % 4294967296 ≡ 2 ^ (32 - c.first_run-above.result.1) = one_shl (32 - c.first_run-above.result.1) 32 (omega (arith, r.ensures.run.after)) in
    rw shl (λ h v. apart_word p.base p.word r.result.0 r.result.1 p.next p.end v r.ensures.run (c.requires.piece.alone c.if-piece-gt0.true) h)
