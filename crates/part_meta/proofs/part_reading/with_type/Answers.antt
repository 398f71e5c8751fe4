use Rattle.std.proofs.Common.{◌≡◌, ◌∷◌, ◌++◌, [], sym, ap, ◌∙◌}
use Rattle.part_meta.specs.Lines.{line}
use Rattle.part_meta.specs.PartText.{column_begin_line, name_line, type_line}
use Rattle.part_meta.specs.PartFront.{body_lines}
use Rattle.part_meta.proofs.PartLemmas.{is_type, with_more}
use Rattle.part_meta.proofs.part_reading.with_type.Goals as goal

pub returns-in-Some : goal.returns-in-Some
unfolding type_line
returns-in-Some c =
    let text : type_line c.in-Some.ty ≡ line c.args.text.now = ap line (sym c.in-Some.ensures) in
    let read = column_begin_line ∷ name_line c.args.name ∷ [] in
    ((c.requires.valid, c.requires.takes), ap (λ l. body_lines c.args.body ++ (read ++ l ∷ [])) text ∙ with_more (body_lines c.args.body) read (line c.args.text.now))

pub returns-in-None : goal.returns-in-None
returns-in-None c = λ b. let n = is_type c.args.body c.args.name c.args.text.now c.requires.valid b in c.in-None.ensures n.column.ty n.has
