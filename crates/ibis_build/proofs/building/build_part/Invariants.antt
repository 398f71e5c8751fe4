use Rattle.std.proofs.Common.{◌≡◌, ℕ, Some, take}
use Rattle.std.specs.List.{slice_get}
use Rattle.fb_outside.specs.Files.{ChangesAmong}
use Rattle.fb_outside.specs.Reads.{AddsOnly}
use Rattle.world.specs.PartFiles.{part_data}
use Rattle.world.specs.Stands.{StandsFor}
use Rattle.world.specs.World.{Content, Partition, World, content_at}
use Rattle.ibis_build.specs.Builds.{part_tasks}
use Rattle.ibis_build.specs.Causes.{AreSound, HasPartIndexes, IsPartIndex}
use Rattle.ibis_build.specs.Leaves.{StandsWith}
use Rattle.ibis_build.specs.Looks.{IsLookAmong}
use Rattle.ibis_build.proofs.building.build_part.Given as goal

abbrev pub invariant-loop-col : goal.invariant-loop-col
invariant-loop-col g l = record {
  unfailed : g.S.Store.faults l.store ≡ g.S.Store.faults l.fn.store;
  kept : ChangesAmong (IsPartIndex l.dataset l.part l.cols) (g.S.Store.files l.fn.store) (g.S.Store.files l.store);
  reads : AddsOnly (IsLookAmong l.dataset l.cols) (g.S.Store.reads l.fn.store) (g.S.Store.reads l.store);
  puts : HasPartIndexes (g.S.Store.files l.fn.store) l.dataset l.part (record { spec = l.spec; cols = take l.col-index l.cols }) (g.S.Store.files l.store);
  sound : AreSound (g.S.Store.files l.fn.store) l.dataset l.part (take l.col-index l.cols);
  stands : (world : World) (content : Content) (place : ℕ) (p : Partition) → StandsFor (g.S.Store.files l.fn.store) world
      → content_at world l.dataset.dir ≡ Some content → slice_get content.parts place ≡ Some p
      → content.schema ≡ l.dataset.schema → l.part ≡ part_data content.schema p
      → StandsWith l.dataset.dir l.spec world (part_tasks l.spec content.schema (take l.col-index l.cols) p) (g.S.Store.files l.store);
}
