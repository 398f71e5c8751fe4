use Rattle.std.proofs.Common.{◌<◌, ◌≤◌, ◌++◌, ◌∷◌, [], length, take, unwrap_or, arith, sym, subst, ap, ◌∙◌}
use Rattle.std.proofs.lemmas.List.{take_all}
use Rattle.fb_types.specs.declared.cells.Cell.TheVariants.{Null}
use Rattle.text_column.specs.TextFiles.{AreFilesOf}
use Rattle.world.specs.Cells.{texts_of, word_of}
use Rattle.dataset.proofs.CellLemmas.{mapped_more}
use Rattle.dataset.proofs.gathering.texts_of.Goals as goal

pub loop-row-preserved : goal.loop-row-preserved
loop-row-preserved c =
    let cells = c.args.part.now.cells in
    let more : c.loop-row.row < length cells = omega (arith, c.len-row-end.ensures.len) in
    let pushed = c.in_ok-push.ensures (texts_of (take c.loop-row.row cells)) c.loop-row.invariant in
    subst (AreFilesOf c.push.new.self)
    (ap (λ text. texts_of (take c.loop-row.row cells) ++ text ∷ []) c.text_at.ensures
    ∙ sym (mapped_more (λ cell. unwrap_or (word_of cell) []) cells c.loop-row.row Null more)) pushed

pub returns : goal.returns
returns c =
    let all : length c.args.part.now.cells ≤ c.loop-row.row = omega (arith, c.len-row-end.ensures.len) in
    subst (λ cells. AreFilesOf c.loop-row.files (texts_of cells)) (take_all c.loop-row.row c.args.part.now.cells all) c.loop-row.invariant
