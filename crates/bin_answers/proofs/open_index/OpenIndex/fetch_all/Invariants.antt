use Rattle.std.proofs.Common.{◌≡◌, List, All, length, map, take}
use Rattle.fb_outside.specs.Files.{SameFiles}
use Rattle.fb_outside.specs.Reads.{AddsOnly}
use Rattle.binning.specs.Encodings.{vectors}
use Rattle.binning.specs.Members.{bitmap}
use Rattle.binning.specs.declared.gathering.Bin.{Bin}
use Rattle.bin_answers.specs.Fetched.{AreFaultless, Fetches, HasBins}
use Rattle.bin_answers.proofs.open_index.OpenIndex.fetch_all.Given as goal

abbrev pub invariant-loop-k : goal.invariant-loop-k
invariant-loop-k g l = record {
  unfailed : g.S.Store.faults l.store ≡ g.S.Store.faults l.fn.store;
  kept : SameFiles (g.S.Store.files l.fn.store) (g.S.Store.files l.store);
  sound : AreFaultless (g.S.Store.files l.fn.store) l.self.head (take l.k-index l.numbers);
  reads : Fetches (g.S.Store.files l.fn.store) (g.S.Store.reads l.fn.store) (g.S.Store.reads l.store) l.self.head (take l.k-index l.numbers) (Unit {0});
  looks : AddsOnly (λ look. look.name ≡ l.self.head.name) (g.S.Store.reads l.fn.store) (g.S.Store.reads l.store);
  count : length l.all.items ≡ l.k-index;
  long : All (λ v. length v ≡ length l.self.mask) l.all.items;
  bitmaps : (bins : List Bin) → HasBins (g.S.Store.files l.fn.store) l.self.head l.self.mask bins
      → l.all.items ≡ map (bitmap l.self.head.spec.encoding (length l.self.mask) (vectors bins)) (take l.k-index l.numbers);
}
