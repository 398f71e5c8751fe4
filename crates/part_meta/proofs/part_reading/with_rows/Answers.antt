use Rattle.std.proofs.Common.{◌∷◌, [], ap, sym}
use Rattle.part_meta.specs.Lines.{line}
use Rattle.part_meta.specs.PartText.{header_begin_line, number_line, rows_line}
use Rattle.part_meta.proofs.PartLemmas.{is_rows}
use Rattle.part_meta.proofs.part_reading.with_rows.Goals as goal

pub returns-in-Some : goal.returns-in-Some
unfolding rows_line
returns-in-Some c =
    ((c.requires, c.in-Some.ensures.0, c.in-Some.ensures.1), ap (λ t. header_begin_line ∷ number_line c.args.number ∷ line t ∷ []) (sym c.in-Some.ensures.2))

pub returns-in-None : goal.returns-in-None
returns-in-None c = λ b. c.in-None.ensures b.value.rows b.valid.some b.valid.few (is_rows c.args.number c.args.text.now b)
