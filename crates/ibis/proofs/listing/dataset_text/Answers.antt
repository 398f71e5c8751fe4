use Rattle.std.proofs.Common.{◌≡◌, ◌<◌, Some, length, ap, ◌∙◌, arith}
use Rattle.std.proofs.lemmas.Result.{err_from_is_err_and}
use Rattle.ibis.proofs.ListLemmas.{dataset_done, item_at, part_looks, part_more, part_stops}
use Rattle.ibis.proofs.listing.dataset_text.Goals as goal

pub loop-part-preserved : goal.loop-part-preserved
loop-part-preserved g c =
    let files = g.S.Store.files c.args.store.now in
    let there = item_at c.args.dataset.now.parts _ c.loop-part.part-index c.part-item.result c.as_slice-part-items.ensures
    (omega (arith, c.loop-part-test.true)) c.part-item.is in
    let kept = c.loop-part.invariant.kept in
    record {
      told = (rw c.in_ok-push_part.was at c.push_part.ensures.cause).told (λ e. cc) ∙ c.loop-part.invariant.told;
      kept = c.push_part.ensures.files ∙ kept;
      reads = part_looks files c.args.dataset.now _ c.loop-part.part-index c.part-item.result _ _ _ kept there
          c.loop-part.invariant.reads c.push_part.ensures.reads;
      lines = part_more files c.args.dataset.now _ c.loop-part.part-index c.part-item.result _ _ c.push_part.result kept
          c.in_ok-push_part.was there c.loop-part.invariant.lines c.push_part.ensures.gives;
    }

pub returns-clause-gives : goal.returns-clause-gives
returns-clause-gives g c =
    dataset_done (g.S.Store.files c.args.store.now) c.args.dataset.now c.loop-part.part-index _
    (omega (arith, c.loop-part-test.false, ap length c.as_slice-part-items.ensures)) c.loop-part.invariant.lines

pub returns-in_err-push_part-clause-reads : goal.returns-in_err-push_part-clause-reads
returns-in_err-push_part-clause-reads g c =
    let there = item_at c.args.dataset.now.parts _ c.loop-part.part-index c.part-item.result c.as_slice-part-items.ensures
    (omega (arith, c.loop-part-test.true)) c.part-item.is in
    part_looks (g.S.Store.files c.args.store.now) c.args.dataset.now _ c.loop-part.part-index c.part-item.result _ _ _
    c.loop-part.invariant.kept there c.loop-part.invariant.reads c.push_part.ensures.reads

pub returns-in_err-push_part-clause-gives : goal.returns-in_err-push_part-clause-gives
returns-in_err-push_part-clause-gives g c =
    let there = item_at c.args.dataset.now.parts _ c.loop-part.part-index c.part-item.result c.as_slice-part-items.ensures
    (omega (arith, c.loop-part-test.true)) c.part-item.is in
    let p = err_from_is_err_and c.from_residual-in_err-push_part.result c.from_residual-in_err-push_part.ensures.1 in
    rw (p.1, p.2)
    (part_stops (g.S.Store.files c.args.store.now) c.args.dataset.now _ c.loop-part.part-index c.part-item.result _ _ c.push_part.result _
    c.loop-part.invariant.kept c.in_err-push_part.was there c.loop-part.invariant.lines c.push_part.ensures.gives)
