use Rattle.std.proofs.Common.{◌≡◌, ◌<◌, ◌≤◌, ◌++◌, ◌∷◌, [], ℤ, List, All, length, map, arith, sym, subst, ap, ◌∙◌, to_z, of_z}
use Rattle.std.proofs.lemmas.Int.{to_z-of_z}
use Rattle.std.proofs.lemmas.List.{take_all}
use Rattle.std.specs.Int.{w128}
use Rattle.column_file.specs.Values.{ValueFits}
use Rattle.fb_types.specs.declared.cells.Cell.TheVariants.{Null}
use Rattle.world.specs.Cells.{number_of}
use Rattle.dataset.specs.WrittenColumns.{cell_of}
use Rattle.dataset.proofs.CellLemmas.{mapped_more, numbers_fit}
use Rattle.dataset.proofs.gathering.numbers_of.Goals as goal

pub loop-row-preserved : goal.loop-row-preserved
loop-row-preserved c =
    let cells = c.args.part.now.cells in
    let more : c.loop-row.row < length cells = omega (arith, c.len-rows.ensures.len) in
    let same : to_z w128 (of_z w128 c.number_at.result) ≡ c.number_at.result = to_z-of_z w128 c.number_at.result (record { sfits = c.number_at.type_inv }) in
    c.in_ok-push.ensures.items ∙ ap (λ (z : ℤ). c.loop-row.numbers.items ++ z ∷ []) (same ∙ c.number_at.ensures)
    ∙ ap (λ (front : List ℤ). front ++ number_of (cell_of c.args.part.now c.loop-row.row) ∷ []) c.loop-row.invariant
    ∙ sym (mapped_more number_of cells c.loop-row.row Null more)

pub returns-clause-numbers : goal.returns-clause-numbers
returns-clause-numbers c =
    let all : length c.args.part.now.cells ≤ c.loop-row.row = omega (arith, c.len-rows.ensures.len) in
    c.loop-row.invariant ∙ ap (map number_of) (take_all c.loop-row.row c.args.part.now.cells all)

pub returns-clause-fit : goal.returns-clause-fit
returns-clause-fit c =
    let all : length c.args.part.now.cells ≤ c.loop-row.row = omega (arith, c.len-rows.ensures.len) in
    let ty = c.args.part.now.column.ty in
    subst (All (λ (number : ℤ). ValueFits number ty)) (sym (c.loop-row.invariant ∙ ap (map number_of) (take_all c.loop-row.row c.args.part.now.cells all)))
    (numbers_fit ty c.args.part.now.cells c.requires c.len-rows.ensures.fit)
