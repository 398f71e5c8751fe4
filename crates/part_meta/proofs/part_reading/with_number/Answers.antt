use Rattle.std.proofs.Common.{◌∷◌, [], ap, sym}
use Rattle.part_meta.specs.Lines.{line}
use Rattle.part_meta.specs.PartText.{header_begin_line, number_line}
use Rattle.part_meta.proofs.PartLemmas.{is_number}
use Rattle.part_meta.proofs.part_reading.with_number.Goals as goal

pub returns-in-Some : goal.returns-in-Some
unfolding number_line
returns-in-Some c = (c.in-Some.ensures.0, ap (λ t. header_begin_line ∷ line t ∷ []) (sym c.in-Some.ensures.1))

pub returns-in-None : goal.returns-in-None
returns-in-None c = λ b. c.in-None.ensures b.value.number b.valid.number (is_number c.args.text.now b)
