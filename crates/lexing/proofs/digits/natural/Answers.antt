use Rattle.std.proofs.Common.{◌<◌, length, ap, sym, ◌∙◌, arith}
use Rattle.std.specs.Prelude.{Some}
use Rattle.std.specs.Option.{option_map}
use Rattle.std.proofs.lemmas.Bool.Decides.{nat_tests}
use Rattle.lexing.specs.Digits.{saturated}
use Rattle.lexing.proofs.DigitLemmas.{front_all, natural_of-digits, natural_of-short}
use Rattle.lexing.proofs.digits.natural.Goals as goal

pub returns-then-digits_len-text : goal.returns-then-digits_len-text
returns-then-digits_len-text c =
    sym (ap (option_map saturated) (natural_of-short c.args.text.now c.digits_len.result c.digits_len.ensures.value c.if-digits_len-text.true))

pub magnitude-requires : goal.magnitude-requires
magnitude-requires c = front_all c.args.text.now c.digits_len.result c.digits_len.ensures.value c.if-digits_len-text.false

pub returns : goal.returns
returns c =
    let some : 0 < length c.args.text.now = grind (arith, nat_tests) in
    let all = front_all c.args.text.now c.digits_len.result c.digits_len.ensures.value c.if-digits_len-text.false in
    ap Some c.magnitude.ensures ∙ sym (ap (option_map saturated) (natural_of-digits c.args.text.now some all))
