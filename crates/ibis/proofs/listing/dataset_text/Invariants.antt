use Rattle.std.proofs.Common.{◌≡◌}
use Rattle.fb_outside.specs.Reads.{AddsOnly}
use Rattle.ibis.specs.Looks.{IsIndexLook}
use Rattle.ibis.proofs.ListLemmas.{DatasetSoFar}
use Rattle.ibis.proofs.listing.dataset_text.Given as goal

abbrev pub invariant-loop-part : goal.invariant-loop-part
invariant-loop-part g l = record {
  told : g.S.Store.faults l.store ≡ g.S.Store.faults l.fn.store;
  kept : g.S.Store.files l.store ≡ g.S.Store.files l.fn.store;
  reads : AddsOnly (IsIndexLook (g.S.Store.files l.fn.store) l.dataset) (g.S.Store.reads l.fn.store) (g.S.Store.reads l.store);
  lines : DatasetSoFar (g.S.Store.files l.fn.store) l.dataset l.part-index l.text.items;
}
