use Rattle.std.proofs.Common.{◌≡◌, ◌+◌, ◌*◌, ◌≤◌, List, All, length, take}
use Rattle.fb_outside.specs.Files.{SameFiles}
use Rattle.fb_outside.specs.Reads.{AddsOnly}
use Rattle.wah_logic.specs.Logic.{groups_and_rest}
use Rattle.binning.specs.declared.against_bins.Three.TheVariants.{Unknown, Yes}
use Rattle.binning.specs.declared.gathering.Bin.{Bin}
use Rattle.bin_answers.specs.Bins.{rows_of_runs}
use Rattle.bin_answers.specs.Fetched.{AreFaultless, Fetches, HasBins, needed_by}
use Rattle.bin_answers.proofs.open_index.OpenIndex.rows_of_all.Given as goal

abbrev pub invariant-loop-run : goal.invariant-loop-run
invariant-loop-run g l = record {
  unfailed : g.S.Store.faults l.store ≡ g.S.Store.faults l.fn.store;
  kept : SameFiles (g.S.Store.files l.fn.store) (g.S.Store.files l.store);
  sound : AreFaultless (g.S.Store.files l.fn.store) l.self.head (needed_by l.self.head (take l.run-index l.runs));
  reads : Fetches (g.S.Store.files l.fn.store) (g.S.Store.reads l.fn.store) (g.S.Store.reads l.store) l.self.head
      (needed_by l.self.head (take l.run-index l.runs)) (Unit {0});
  looks : AddsOnly (λ look. look.name ≡ l.self.head.name) (g.S.Store.reads l.fn.store) (g.S.Store.reads l.store);
  definite_long : All (λ v. length v ≡ length l.self.mask) l.found.definite.items;
  unknown_long : All (λ v. length v ≡ length l.self.mask) l.found.unknown.items;
  count : length l.found.definite.items + length l.found.unknown.items ≤ l.run-index;
  steps : l.steps ≤ l.fn.steps + 2 * groups_and_rest (length l.self.mask) * (length (needed_by l.self.head (take l.run-index l.runs)) + 2 * l.run-index);
  definite : (bins : List Bin) → HasBins (g.S.Store.files l.fn.store) l.self.head l.self.mask bins
      → l.found.definite.items ≡ rows_of_runs (length l.self.mask) bins Yes (take l.run-index l.runs);
  unknown : (bins : List Bin) → HasBins (g.S.Store.files l.fn.store) l.self.head l.self.mask bins
      → l.found.unknown.items ≡ rows_of_runs (length l.self.mask) bins Unknown (take l.run-index l.runs);
}
