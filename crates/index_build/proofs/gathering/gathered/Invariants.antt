use Rattle.std.proofs.Common.{◌≡◌, ◌-◌, ◌≤◌, ℤ, List, length, take}
use Rattle.fb_outside.specs.Files.{SameFiles}
use Rattle.fb_outside.specs.Reads.{AddsOnly}
use Rattle.binning.specs.Bins.{cells}
use Rattle.binning.specs.Gathered.{Gathered}
use Rattle.index_build.specs.Index.{AreRead}
use Rattle.index_build.proofs.gathering.gathered.Given as goal

abbrev pub invariant-loop-at : goal.invariant-loop-at
invariant-loop-at g l = record {
  unfailed : g.S.Store.faults l.store ≡ g.S.Store.faults l.fn.store;
  kept : SameFiles (g.S.Store.files l.fn.store) (g.S.Store.files l.store);
  reads : AddsOnly (λ look. look.name ≡ l.column.name) (g.S.Store.reads l.fn.store) (g.S.Store.reads l.store);
  room : length l.block ≡ 4096;
  within : l.at ≤ l.column.rows;
  rule : l.gatherer.rule ≡ l.fn.rule;
  rows : length l.gatherer.places ≡ l.at;
  numbers : List ℤ;
  read : AreRead (g.S.Store.files l.fn.store) l.column l.at numbers;
  gathers : Gathered l.gatherer (cells (take l.at l.column.mask) numbers);
}

abbrev pub decreases-loop-at : goal.decreases-loop-at
decreases-loop-at g l = l.column.rows - l.at
