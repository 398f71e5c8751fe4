use Rattle.std.proofs.Common.{◌∷◌, [], length, ap, sym}
use Rattle.part_meta.specs.Lines.{line}
use Rattle.part_meta.specs.PartText.{count_line, header_begin_line, number_line, rows_line}
use Rattle.part_meta.proofs.PartLemmas.{is_count}
use Rattle.part_meta.proofs.part_reading.with_count.Goals as goal

pub returns-in-Some : goal.returns-in-Some
unfolding count_line
returns-in-Some c = (
  record { number = c.requires.0; some_rows = c.requires.1; few_rows = c.requires.2; some = c.in-Some.ensures.0; few = c.in-Some.ensures.1 },
  ap (λ t. header_begin_line ∷ number_line c.args.number ∷ rows_line c.args.rows ∷ line t ∷ []) (sym c.in-Some.ensures.2),
)

pub returns-in-None : goal.returns-in-None
returns-in-None c = λ b. c.in-None.ensures (length b.value.schema) b.valid.schema.some b.valid.schema.few (is_count c.args.number c.args.rows c.args.text.now b)
