use Rattle.std.proofs.Common.{◌-◌, get_or, take}
use Rattle.std.specs.Str.Parse.{digits_value}
use Rattle.lexing.proofs.DigitLemmas.{digits_value-more, saturated-step}
use Rattle.lexing.proofs.digits.long_magnitude.Goals as goal

pub loop-digit-preserved : goal.loop-digit-preserved
loop-digit-preserved c =
    let digits = c.args.digits.now in
    let i = c.loop-digit.digit-index in
    let more = digits_value-more digits i c.requires c.loop-digit-test.true in
    rw (c.saturating_add-value.ensures, c.saturating_mul.ensures, c.from.ensures, c.loop-digit.invariant, more) (saturated-step (digits_value 10 (take i digits)) (get_or digits i 0 - 48))
