use Rattle.std.proofs.Common.{◌≡◌, ◌<◌, ◌+◌, ◌^◌, MatchOption, length, sym, ap, subst, ◌∙◌, arith}
use Rattle.fb_types.specs.declared.cells.Cell.{Cell}
use Rattle.fb_types.specs.declared.cells.Cell.TheVariants.{Null, Word}
use Rattle.fb_types.specs.Table.{cell_at}
use Rattle.dataset.specs.WrittenColumns.{cell_of}
use Rattle.dataset.proofs.CellLemmas.{cell_there, length-cells}
use Rattle.dataset.proofs.part_column.PartColumn.word.Goals as goal

pub overflow_add-self-inside : goal.overflow_add-self-inside
overflow_add-self-inside c =
    let s = c.self.inside in
    let len = length-cells s.columns.now s.col s.first s.rows c.self.invariant.0.within in
    let same : length c.args.self.now.cells ≡ s.rows = ap (λ p. length p.cells) (sym c.self.view_is) ∙ len in
    let few : s.first + s.rows < 2 ^ 64 = c.self.invariant.0.few in
    record { fits = omega (arith, c.from.ensures) }

pub returns : goal.returns
returns c =
    let s = c.self.inside in
    let len = length-cells s.columns.now s.col s.first s.rows c.self.invariant.0.within in
    let same : length c.args.self.now.cells ≡ s.rows = ap (λ p. length p.cells) (sym c.self.view_is) ∙ len in
    let there = cell_there s.columns.now s.col s.first s.rows c.args.row c.self.invariant.0.within (omega arith) in
    let is : cell_at s.columns.now (s.first + c.from.result) s.col ≡ cell_of c.args.self.now c.args.row =
    ap (λ r. cell_at s.columns.now (s.first + r) s.col) c.from.ensures ∙ sym there ∙ ap (λ p. cell_of p c.args.row) c.self.view_is in
    subst (λ (cell : Cell). MatchOption c.word.result (cell ≡ Null) (λ word. cell ≡ Word word.now)) is c.word.ensures
