use Rattle.std.proofs.Common.{◌≡◌, ◌<◌, ◌≤◌, ◌+◌, ◌++◌, ◌∷◌, [], ◌∙◌, sym, ap, List, Option, ℤ, ℕ, length, take, get_or, false, pos, arith, rules}
use Rattle.std.specs.Int.{w128}
use Rattle.std.proofs.lemmas.Int.{to_z-of_z}
use Rattle.std.proofs.lemmas.List.{take_all, length-take-le}
use mir.Val.{SFits}
use Rattle.binning.specs.Bins.{cells}
use Rattle.binning.specs.Listed.{row_values, values_at}
use Rattle.binning.specs.declared.listed.RowValue.{RowValue}
use Rattle.binning.proofs.MaskLemmas.{cells_more, cell, cell_is}
use Rattle.binning.proofs.ColumnLemmas.{length-cells}
use Rattle.binning.proofs.ListedLemmas.{row_values_push}
use Rattle.binning.proofs.listed.row_values.Goals as goal

pub loop-row-preserved : goal.loop-row-preserved
loop-row-preserved c =
    let vs = c.args.values.now in
    let mask = c.args.is_there.now in
    let i = c.loop-row.row in
    let within : i < length vs = c.loop-row-test.true in
    let there : i < length mask = omega (arith, c.requires.same) in
    let fits : SFits w128 (get_or vs i (pos 0)) = search rules in
    let front = cells (take i mask) (take i vs) in
    let told : c.cell.result ≡ cell (get_or mask i false) (get_or vs i (pos 0)) = c.cell.ensures ∙ (simp to_z-of_z (sym (cell_is (get_or mask i false) (get_or vs i (pos 0))))) in
    let m : length (take i mask) ≡ i = length-take-le i mask (omega (arith, there)) in
    let v : length (take i vs) ≡ i = length-take-le i vs (omega (arith, within)) in
    let l = length-cells (take i mask) (take i vs) (m ∙ sym v) in
    let long : 0 + length front ≡ i = omega (arith, l, m) in
    c.in_ok-push_value.ensures
    ∙ ap (λ (ps : List RowValue). ps ++ values_at i c.cell.result) c.loop-row.invariant
    ∙ ap (λ (n : ℕ). row_values 0 front ++ values_at n c.cell.result) (sym long)
    ∙ sym (row_values_push 0 front c.cell.result)
    ∙ ap (λ (x : Option ℤ). row_values 0 (front ++ x ∷ [])) told
    ∙ ap (λ (cs : List (Option ℤ)). row_values 0 cs) (sym (cells_more mask vs i false (pos 0) there within))

pub returns : goal.returns
returns c =
    let i = c.loop-row.row in
    let past : length c.args.values.now ≤ i = omega arith in
    let past_mask : length c.args.is_there.now ≤ i = omega (arith, c.requires.same) in
    rw (take_all i c.args.is_there.now past_mask, take_all i c.args.values.now past) at c.loop-row.invariant
