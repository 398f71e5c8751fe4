use Rattle.std.proofs.Common.{subst}
use Rattle.fb_types.specs.declared.cells.Cell.{Cell}
use Rattle.fb_types.specs.declared.cells.Cell.TheVariants.{Null}
use Rattle.fb_types.specs.Cells.{CellFits}
use Rattle.dataset.proofs.CellLemmas.{word_fits}
use Rattle.dataset.proofs.gathering.code_at.Goals as goal

pub code_for-requires-clause-word : goal.code_for-requires-clause-word
code_for-requires-clause-word c =
    let part = c.args.part.now in
    let fits = c.requires.fit c.args.row Null c.requires.row in
    word_fits part.column.ty c.in-Some.word.now c.requires.column (subst (λ (cell : Cell). CellFits cell part.column.ty) c.in-Some.ensures fits)
