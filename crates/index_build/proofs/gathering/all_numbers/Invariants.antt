use Rattle.std.proofs.Common.{◌≡◌, ◌-◌, ◌≤◌, length}
use Rattle.fb_outside.specs.Files.{SameFiles}
use Rattle.fb_outside.specs.Reads.{AddsOnly}
use Rattle.index_build.specs.Index.{AreRead}
use Rattle.index_build.proofs.gathering.all_numbers.Given as goal

abbrev pub invariant-loop-at : goal.invariant-loop-at
invariant-loop-at g l = record {
  unfailed : g.S.Store.faults l.store ≡ g.S.Store.faults l.fn.store;
  kept : SameFiles (g.S.Store.files l.fn.store) (g.S.Store.files l.store);
  reads : AddsOnly (λ look. look.name ≡ l.column.name) (g.S.Store.reads l.fn.store) (g.S.Store.reads l.store);
  room : length l.block ≡ 4096;
  within : l.at ≤ l.column.rows;
  numbers : AreRead (g.S.Store.files l.fn.store) l.column l.at l.all.items;
}

abbrev pub decreases-loop-at : goal.decreases-loop-at
decreases-loop-at g l = l.column.rows - l.at
