use Rattle.std.proofs.Common.{◌≡◌, ◌<◌, ℕ, Some, take}
use Rattle.std.specs.List.{slice_get}
use Rattle.fb_outside.specs.Files.{ChangesAmong}
use Rattle.fb_outside.specs.Reads.{AddsOnly}
use Rattle.part_meta.specs.declared.part.PartMeta.{PartMeta}
use Rattle.world.specs.Stands.{StandsFor}
use Rattle.world.specs.World.{Content, World, content_at}
use Rattle.dataset.specs.Found.{dataset_in}
use Rattle.ibis_build.specs.Builds.{tasks_in}
use Rattle.ibis_build.specs.Causes.{AreSound, HasPartIndexes, IsIndexName}
use Rattle.ibis_build.specs.Leaves.{StandsWith}
use Rattle.ibis_build.specs.Looks.{IsLookAmong}
use Rattle.ibis_build.proofs.building.build_parts.Given as goal

abbrev pub invariant-loop-part : goal.invariant-loop-part
invariant-loop-part g l = record {
  unfailed : g.S.Store.faults l.store ≡ g.S.Store.faults l.fn.store;
  kept : ChangesAmong (IsIndexName l.dataset l.cols) (g.S.Store.files l.fn.store) (g.S.Store.files l.store);
  reads : AddsOnly (IsLookAmong l.dataset l.cols) (g.S.Store.reads l.fn.store) (g.S.Store.reads l.store);
  puts : (place : ℕ) (part : PartMeta) → place < l.part-index → slice_get l.dataset.parts place ≡ Some part
      → HasPartIndexes (g.S.Store.files l.fn.store) l.dataset part (record { spec = l.spec; cols = l.cols }) (g.S.Store.files l.store);
  sound : (place : ℕ) (part : PartMeta) → place < l.part-index → slice_get l.dataset.parts place ≡ Some part
      → AreSound (g.S.Store.files l.fn.store) l.dataset part l.cols;
  stands : (world : World) (content : Content) → StandsFor (g.S.Store.files l.fn.store) world
      → content_at world l.dataset.dir ≡ Some content → l.dataset ≡ dataset_in l.dataset.dir content
      → StandsWith l.dataset.dir l.spec world (tasks_in l.spec content.schema l.cols (take l.part-index content.parts)) (g.S.Store.files l.store);
}
