use Rattle.std.proofs.Common.{◌≡◌}
use Rattle.fb_outside.specs.Reads.{AddsOnly}
use Rattle.ibis.specs.Looks.{IsPartIndexLook}
use Rattle.ibis.proofs.ListLemmas.{PartSoFar}
use Rattle.ibis.proofs.listing.push_part.Given as goal

abbrev pub invariant-loop-column : goal.invariant-loop-column
invariant-loop-column g l = record {
  told : g.S.Store.faults l.store ≡ g.S.Store.faults l.fn.store;
  kept : g.S.Store.files l.store ≡ g.S.Store.files l.fn.store;
  reads : AddsOnly (IsPartIndexLook (g.S.Store.files l.fn.store) l.dataset l.part) (g.S.Store.reads l.fn.store) (g.S.Store.reads l.store);
  lines : PartSoFar (g.S.Store.files l.fn.store) l.dataset l.part l.column-index l.fn.text.items l.text.items;
}
