use Rattle.std.proofs.Common.{◌≡◌, take}
use Rattle.std.specs.Str.Parse.{digits_value}
use Rattle.lexing.specs.Digits.{saturated}
use Rattle.lexing.proofs.digits.long_magnitude.Given as goal

abbrev pub invariant-loop-digit : goal.invariant-loop-digit
invariant-loop-digit l = l.value ≡ saturated (digits_value 10 (take l.digit-index l.digits))
