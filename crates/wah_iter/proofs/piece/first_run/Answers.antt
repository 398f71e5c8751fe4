use Rattle.std.proofs.Common.{◌≡◌, ◌-◌, ◌/◌, ◌^◌, arith}
use Rattle.std.proofs.lemmas.Nat.Bits.{ones_shr}
use Rattle.std.specs.Int.Count.{count_leading_zeros}
use Rattle.wah_iter.proofs.WalkLaws.{is_top}
use Rattle.wah_iter.proofs.RunLaws.{is_first_run, top_below}
use Rattle.wah_iter.proofs.piece.first_run.Goals as goal

pub overflow_shr-below : goal.overflow_shr-below
overflow_shr-below c = omega (arith, (is_top c.args.word c.requires.some c.requires.fits).few)

pub overflow_sub-below : goal.overflow_sub-below
overflow_sub-below c =
    let z = count_leading_zeros 32 c.args.word in
    let t = is_top c.args.word c.requires.some c.requires.fits in
    let shr : 4294967295 / 2 ^ z ≡ 2 ^ (32 - z) - 1 = ones_shr 32 z (omega (arith, t.few)) in
    rw shr (top_below c.args.word z t)

pub returns-clause-top : goal.returns-clause-top
returns-clause-top c = is_top c.args.word c.requires.some c.requires.fits

pub returns-clause-run : goal.returns-clause-run
returns-clause-run c =
    let z = count_leading_zeros 32 c.args.word in
    let t = is_top c.args.word c.requires.some c.requires.fits in
    let shr : 4294967295 / 2 ^ z ≡ 2 ^ (32 - z) - 1 = ones_shr 32 z (omega (arith, t.few)) in
    rw shr (is_first_run c.args.word z t)
