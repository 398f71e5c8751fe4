use Rattle.std.proofs.Common.{◌≡◌, [], ap, length, refl, subst, sym, ◌∙◌}
use Rattle.std.specs.List.{AllByRecursion}
use Rattle.select_group.specs.Totals.{HasOneEach, row_of_totals, rows_of}
use Rattle.select_group.proofs.GroupLemmas.{end_rows, step_rows}
use Rattle.select_group.proofs.grouper.rows_of.Goals as goal

pub loop-key-init : goal.loop-key-init
loop-key-init c =
    let none : c.in_ok-rows.rows.items ≡ [] = c.in_ok-rows.ensures.items in
    record { so_far = rw none refl; fit = subst (AllByRecursion (HasOneEach c.args.items.now)) (sym c.into_iter-key-iterator.ensures.into_iter_gives.0) c.requires }

pub row_of_totals-row-requires-clause-key : goal.row_of_totals-row-requires-clause-key
row_of_totals-row-requires-clause-key c = (subst (AllByRecursion (HasOneEach c.args.items.now)) c.in-Some.ensures.steps c.loop-key.invariant.fit).0.0

pub row_of_totals-row-requires-clause-totals : goal.row_of_totals-row-requires-clause-totals
row_of_totals-row-requires-clause-totals c = ap length c.as_slice.ensures ∙ (subst (AllByRecursion (HasOneEach c.args.items.now)) c.in-Some.ensures.steps c.loop-key.invariant.fit).0.1

pub loop-key-preserved : goal.loop-key-preserved
loop-key-preserved c = record {
  so_far = step_rows c.args.items.now c.loop-key.rows.items _ c.loop-key.key-iterator _ c.in-Some.key c.in-Some.totals _ _ c.in-Some.ensures.steps c.in_ok-push.ensures.items (c.row_of_totals-row.ensures ∙ ap (row_of_totals c.args.items.now c.in-Some.key) c.as_slice.ensures) c.loop-key.invariant.so_far;
  fit = (subst (AllByRecursion (HasOneEach c.args.items.now)) c.in-Some.ensures.steps c.loop-key.invariant.fit).1;
}

pub returns : goal.returns
returns c = end_rows c.args.items.now c.loop-key.rows.items c.loop-key.key-iterator _ c.in-None.ensures.steps.0 c.loop-key.invariant.so_far ∙ ap (rows_of c.args.items.now) c.into_iter-key-iterator.ensures.into_iter_gives.0
