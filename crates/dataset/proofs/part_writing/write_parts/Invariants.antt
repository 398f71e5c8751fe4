use Rattle.std.proofs.Common.{◌≡◌, take}
use Rattle.std.specs.List.{flat_map}
use Rattle.fb_outside.specs.Puts.{PutsAll}
use Rattle.world.specs.Effects.{new_parts}
use Rattle.world.specs.PartFiles.{part_files}
use Rattle.dataset.proofs.part_writing.write_parts.Given as goal

abbrev pub invariant-loop-place : goal.invariant-loop-place
invariant-loop-place g l = record {
  files : PutsAll (flat_map (part_files l.dir l.columns.schema) (take l.place (new_parts l.next l.per_part l.columns.records)))
      (g.S.Store.files l.initial.store) (g.S.Store.files l.store);
  reads : g.S.Store.reads l.store ≡ g.S.Store.reads l.initial.store;
  cause : g.S.Store.faults l.store ≡ g.S.Store.faults l.initial.store;
}
