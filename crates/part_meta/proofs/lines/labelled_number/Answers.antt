use Rattle.part_meta.proofs.NumberLemmas.{behind_label}
use Rattle.part_meta.proofs.lines.labelled_number.Goals as goal

pub returns-in-Some : goal.returns-in-Some
returns-in-Some c =
    behind_label c.decimal_number.result c.args.text.now c.args.label.now c.in-Some.digits.now c.in-Some.ensures c.decimal_number.ensures
