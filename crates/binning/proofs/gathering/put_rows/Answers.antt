use Rattle.std.proofs.Common.{◌≡◌, ◌<◌, ◌≤◌, ◌+◌, ◌++◌, ◌∷◌, [], ◌∙◌, sym, ap, List, Option, ℤ, length, take, get_or, false, pos, append_assoc, append-nil, length-append, arith, rules}
use Rattle.std.specs.Int.{w128}
use Rattle.std.proofs.lemmas.Int.{to_z-of_z}
use Rattle.std.proofs.lemmas.List.{take_all}
use mir.Val.{SFits}
use Rattle.binning.specs.Bins.{cells}
use Rattle.binning.specs.Spans.{IsInRange}
use Rattle.binning.specs.Gathered.{place_of, keys_in}
use Rattle.binning.proofs.MaskLemmas.{cells_more, cell, cell_is, cell_within, value_at}
use Rattle.binning.proofs.GatherLemmas.{gathered_more, distinct_after, length_after}
use Rattle.binning.proofs.gathering.put_rows.Goals as goal

pub loop-row-init : goal.loop-row-init
loop-row-init c = record {
  knows = c.requires.knows;
  distinct = c.requires.distinct;
  few = c.requires.few;
  rows = omega arith;
  gathered = λ column g. rw (append-nil column) g;
}

pub put_row-requires-clause-within : goal.put_row-requires-clause-within
put_row-requires-clause-within c =
    let vs = c.args.values.now in
    let i = c.loop-row.row in
    let within : i < length vs = c.loop-row-test.true in
    let fits : SFits w128 (get_or vs i (pos 0)) = search rules in
    rw c.cell-cell.ensures (simp to_z-of_z (cell_within IsInRange (get_or c.args.is_there.now i false) (get_or vs i (pos 0)) (value_at IsInRange vs i (pos 0) c.requires.within within)))

pub loop-row-preserved : goal.loop-row-preserved
loop-row-preserved c =
    let vs = c.args.values.now in
    let mask = c.args.is_there.now in
    let rule = c.args.rule.now in
    let i = c.loop-row.row in
    let gs = c.loop-row.groups.items in
    let ps = c.loop-row.places.items in
    let inv = c.loop-row.invariant in
    let p = c.in_ok-last.ensures in
    let within : i < length vs = c.loop-row-test.true in
    let there : i < length mask = omega (arith, c.requires.same) in
    let fits : SFits w128 (get_or vs i (pos 0)) = search rules in
    let told : c.cell-cell.result ≡ cell (get_or mask i false) (get_or vs i (pos 0)) = c.cell-cell.ensures ∙ (simp to_z-of_z (sym (cell_is (get_or mask i false) (get_or vs i (pos 0))))) in
    let longer : length c.put_row.new.places.items ≡ length ps + 1 = ap length p.places ∙ length-append ps (place_of rule (keys_in gs) c.cell-cell.result ∷ []) in
    let more : length c.put_row.new.groups.items ≤ length gs + 1 = rw p.groups (length_after rule gs c.cell-cell.result) in
    record {
      knows = p.knows;
      distinct = rw p.groups (distinct_after rule gs c.cell-cell.result inv.distinct);
      few = omega (arith, longer, more, inv.few);
      rows = omega (arith, longer, inv.rows);
      gathered = λ column g.
          let front = cells (take i mask) (take i vs) in
          let e : column ++ cells (take (i + 1) mask) (take (i + 1) vs) ≡ (column ++ front) ++ c.cell-cell.result ∷ [] =
          ap (λ (xs : List (Option ℤ)). column ++ xs) (cells_more mask vs i false (pos 0) there within ∙ ap (λ (x : Option ℤ). front ++ x ∷ []) (sym told)) ∙ sym (append_assoc column front (c.cell-cell.result ∷ [])) in
          rw (p.groups, p.places, e) (gathered_more rule gs ps (column ++ front) c.cell-cell.result (inv.gathered column g));
    }

pub returns-clause-gathered : goal.returns-clause-gathered
returns-clause-gathered c =
    let i = c.loop-row.row in
    let past : length c.args.values.now ≤ i = omega arith in
    let past_mask : length c.args.is_there.now ≤ i = omega (arith, c.requires.same) in
    λ column g. rw (take_all i c.args.is_there.now past_mask, take_all i c.args.values.now past) at (c.loop-row.invariant.gathered column g)
