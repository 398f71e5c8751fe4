use Rattle.std.proofs.Common.{arith}
use Rattle.lexing.proofs.DigitLemmas.{reads_digit}
use Rattle.lexing.proofs.digits.short_magnitude.Goals as goal

pub overflow_mul-value : goal.overflow_mul-value
overflow_mul-value c =
    let read = reads_digit c.args.digits.now c.loop-digit.digit-index c.requires.all c.requires.few c.loop-digit-test.true in
    omega arith

pub overflow_add-value : goal.overflow_add-value
overflow_add-value c =
    let read = reads_digit c.args.digits.now c.loop-digit.digit-index c.requires.all c.requires.few c.loop-digit-test.true in
    omega arith

pub loop-digit-preserved : goal.loop-digit-preserved
loop-digit-preserved c =
    let read = reads_digit c.args.digits.now c.loop-digit.digit-index c.requires.all c.requires.few c.loop-digit-test.true in
    omega arith
