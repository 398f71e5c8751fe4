use Rattle.std.proofs.Common.{◌≡◌, ◌∷◌, ◌++◌, [], true, sym, ap, ◌∙◌, append-nil, arith}
use Rattle.part_meta.specs.Lines.{line}
use Rattle.part_meta.specs.PartText.{column_begin_line}
use Rattle.part_meta.specs.PartFront.{body_lines}
use Rattle.part_meta.proofs.PartLemmas.{is_column_begin}
use Rattle.part_meta.proofs.part_reading.with_column.Goals as goal

pub returns-then-len-body : goal.returns-then-len-body
returns-then-len-body c = λ b. let n = is_column_begin c.args.body c.args.text.now c.requires.valid b in absurd (omega (arith, n.takes.room))

pub returns-then-is : goal.returns-then-is
unfolding column_begin_line
returns-then-is c =
    let text : line c.args.text.now ≡ column_begin_line = ap line (c.is.ensures.0 c.if-is.true) in
    ((c.requires.valid, omega arith), ap (λ l. body_lines c.args.body ++ l ∷ []) (sym text) ∙ ap (λ t. t ++ line c.args.text.now ∷ []) (sym (append-nil (body_lines c.args.body))))

pub returns-else-is : goal.returns-else-is
returns-else-is c = λ b.
    let n = is_column_begin c.args.body c.args.text.now c.requires.valid b in
    let same : c.is.result ≡ true = c.is.ensures.1 n.has in
    absurd (cc (same, c.if-is.false))
