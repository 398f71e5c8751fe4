use Rattle.std.proofs.Common.{◌+◌, ◌≡◌, ◌^◌, ◌-◌, ap, ◌∙◌, arith}
use Rattle.wah_words.proofs.PlacesLemmas.{places-ones, places-zeros}
use Rattle.three_valued.proofs.RowLemmas.{power_some, shifted_one}
use Rattle.three_valued.proofs.row_answers.last_bits.Goals as goal

pub returns-then-value-clause-bits : goal.returns-then-value-clause-bits
returns-then-value-clause-bits c =
    let count = c.args.count in
    let same = shifted_one count c.requires in
    let some = power_some count in
    rw (same, c.if-value.true) (places-ones count (2 ^ count - 1) (omega arith))

pub returns-else-value-clause-bits : goal.returns-else-value-clause-bits
returns-else-value-clause-bits c = rw c.if-value.false (places-zeros c.args.count)
