use Rattle.std.proofs.Common.{◌≡◌, ◌<◌, Some, ◌∙◌, arith}
use Rattle.std.proofs.lemmas.Result.{err_from_is_err_and}
use Rattle.ibis.proofs.ListLemmas.{column_looks, column_more, column_stops, item_at}
use Rattle.ibis.proofs.listing.push_part.Goals as goal

pub loop-column-preserved : goal.loop-column-preserved
loop-column-preserved g c =
    let files = g.S.Store.files c.args.store.now in
    let there = item_at c.args.dataset.now.schema _ c.loop-column.column-index c.column-item.result c.columns-column-items.ensures.value
    (omega (arith, c.loop-column-test.true)) c.column-item.is in
    let kept = c.loop-column.invariant.kept in
    record {
      told = (rw c.in_ok-push_index.was at c.push_index.ensures.cause).told (λ e. cc) ∙ c.loop-column.invariant.told;
      kept = c.push_index.ensures.files ∙ kept;
      reads = column_looks files c.args.dataset.now c.args.part.now _ c.loop-column.column-index c.column-item.result _ _ _ kept there
          c.loop-column.invariant.reads c.push_index.ensures.reads;
      lines = column_more files c.args.dataset.now c.args.part.now _ c.loop-column.column-index c.column-item.result _ _ _ c.push_index.result kept
          c.in_ok-push_index.was there c.loop-column.invariant.lines c.push_index.ensures.gives;
    }

pub returns-in_err-push_index-clause-reads : goal.returns-in_err-push_index-clause-reads
returns-in_err-push_index-clause-reads g c =
    let there = item_at c.args.dataset.now.schema _ c.loop-column.column-index c.column-item.result c.columns-column-items.ensures.value
    (omega (arith, c.loop-column-test.true)) c.column-item.is in
    column_looks (g.S.Store.files c.args.store.now) c.args.dataset.now c.args.part.now _ c.loop-column.column-index c.column-item.result _ _ _
    c.loop-column.invariant.kept there c.loop-column.invariant.reads c.push_index.ensures.reads

pub returns-in_err-push_index-clause-gives : goal.returns-in_err-push_index-clause-gives
returns-in_err-push_index-clause-gives g c =
    let there = item_at c.args.dataset.now.schema _ c.loop-column.column-index c.column-item.result c.columns-column-items.ensures.value
    (omega (arith, c.loop-column-test.true)) c.column-item.is in
    let p = err_from_is_err_and c.from_residual-in_err-push_index.result c.from_residual-in_err-push_index.ensures.1 in
    rw (p.1, p.2)
    (column_stops (g.S.Store.files c.args.store.now) c.args.dataset.now c.args.part.now _ c.loop-column.column-index c.column-item.result _ _ _ c.push_index.result _
    c.loop-column.invariant.kept c.in_err-push_index.was there c.loop-column.invariant.lines c.push_index.ensures.gives)
