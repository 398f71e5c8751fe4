use Rattle.std.proofs.Common.{◌≡◌, take}
use Rattle.fb_outside.specs.Puts.{PutsAll}
use Rattle.world.specs.PartFiles.{columns_files}
use Rattle.dataset.specs.WrittenColumns.{part_from}
use Rattle.dataset.proofs.part_writing.write_columns.Given as goal

abbrev pub invariant-loop-col : goal.invariant-loop-col
invariant-loop-col g l = record {
  files : PutsAll (columns_files l.dir (part_from l.columns l.meta.number l.first l.meta.rows) 0 (take l.col l.columns.schema))
      (g.S.Store.files l.initial.store) (g.S.Store.files l.store);
  reads : g.S.Store.reads l.store ≡ g.S.Store.reads l.initial.store;
  cause : g.S.Store.faults l.store ≡ g.S.Store.faults l.initial.store;
}
