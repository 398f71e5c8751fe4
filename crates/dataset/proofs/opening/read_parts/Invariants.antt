-- The parts read so far are those of the numbers so far, and nothing else changed.
use Rattle.std.proofs.Common.{◌≡◌, IfSome, map, take}
use Rattle.std.specs.List.{All}
use Rattle.fb_outside.specs.Files.{SameFiles}
use Rattle.fb_outside.specs.Reads.{AddsOnly}
use Rattle.part_meta.specs.PartText.{IsPart}
use Rattle.dataset.specs.Opened.{HasPart, IsTextLook}
use Rattle.dataset.proofs.LookLemmas.{ListedSoFar}
use Rattle.dataset.proofs.opening.read_parts.Given as goal

abbrev pub invariant-loop-number : goal.invariant-loop-number
invariant-loop-number g l = record {
  unfailed : g.S.Store.faults l.store ≡ g.S.Store.faults l.fn.store;
  kept : SameFiles (g.S.Store.files l.fn.store) (g.S.Store.files l.store);
  reads : AddsOnly (IsTextLook l.dir) (g.S.Store.reads l.fn.store) (g.S.Store.reads l.store);
  listed : ListedSoFar (g.S.Store.files l.fn.store) l.dir l.catalog (g.S.Store.reads l.fn.store) (g.S.Store.reads l.store);
  numbers : map (λ part. part.number) l.parts ≡ take l.number-index l.catalog.parts;
  valid : All (λ part. IsPart part × (part.schema ≡ l.catalog.schema)) l.parts;
  read : IfSome (g.S.Store.files l.fn.store) (λ m. All (λ part. HasPart m l.dir part × (part.schema ≡ l.catalog.schema)) l.parts);
}
