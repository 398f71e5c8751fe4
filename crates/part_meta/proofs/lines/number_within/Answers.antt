use Rattle.std.proofs.Common.{◌≡◌, arith}
use Rattle.part_meta.proofs.NumberLemmas.{label_told}
use Rattle.part_meta.proofs.lines.number_within.Goals as goal

pub returns-then-number-eq0 : goal.returns-then-number-eq0
returns-then-number-eq0 c = λ n some few is.
    let same : n ≡ c.in-Some.number = label_told c.args.text.now c.args.label.now n c.in-Some.number (omega arith) (omega arith) is c.in-Some.ensures in
    absurd (omega arith)

pub returns-then-number-most : goal.returns-then-number-most
returns-then-number-most c = λ n some few is.
    let same : n ≡ c.in-Some.number = label_told c.args.text.now c.args.label.now n c.in-Some.number (omega arith) (omega arith) is c.in-Some.ensures in
    absurd (omega arith)
