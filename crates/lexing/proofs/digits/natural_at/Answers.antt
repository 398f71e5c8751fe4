use Rattle.std.proofs.Common.{◌≡◌, ◌<◌, true, length, refl, arith}
use Rattle.std.specs.List.{list_all}
use Rattle.std.specs.Char.{is_ascii_digit}
use Rattle.std.proofs.lemmas.Bool.Decides.{nat_tests}
use Rattle.lexing.specs.Digits.{natural_at}
use Rattle.lexing.proofs.DigitLemmas.{natural_of-digits}
use Rattle.lexing.proofs.Runs.{front_passes}
use Rattle.lexing.proofs.digits.natural_at.Goals as goal

pub magnitude-requires : goal.magnitude-requires
magnitude-requires c = rw (c.split_at.ensures.front, c.digits_len.ensures.value) (front_passes is_ascii_digit c.args.text.now)

pub returns : goal.returns
unfolding natural_at
returns c =
    let digits = c.split_at.result.0.now in
    let some : 0 < length digits = grind (arith, nat_tests) in
    let all : list_all is_ascii_digit digits ≡ true = rw (c.split_at.ensures.front, c.digits_len.ensures.value) (front_passes is_ascii_digit c.args.text.now) in
    let is = natural_of-digits digits some all in
    rw (c.magnitude.ensures, c.split_at.ensures.back, ← c.digits_len.ensures.value, ← c.split_at.ensures.front, is) refl
