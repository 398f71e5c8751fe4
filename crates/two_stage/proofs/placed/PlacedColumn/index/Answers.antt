use Rattle.std.proofs.Common.{subst}
use Rattle.std.specs.Prelude.{IfErr, List, Option}
use Rattle.fb_outside.specs.Reads.{AddsOnly, Look}
use Rattle.index_file.specs.Opening.{IsHeadLook}
use Rattle.two_stage.specs.Placed.{index_file}
use Rattle.fb_outside.specs.Files.{Files}
use Rattle.part_meaning.specs.Columns.{PartColumn}
use Rattle.two_stage.specs.ColumnFiles.{HasColumn}
use Rattle.two_stage.specs.Faults.{IsOutside}
use Rattle.two_stage.proofs.placed.PlacedColumn.index.Goals as goal

pub returns-in-Ok-Some-clause-whole : goal.returns-in-Ok-Some-clause-whole
returns-in-Ok-Some-clause-whole g c =
    subst (λ (o : Option Files). IfErr c.index_at.result (λ fault. (column : PartColumn) → HasColumn o c.args.self.now column → IsOutside fault))
    c.len.ensures.files c.index_at.ensures.whole

pub returns-in-Ok-Some-clause-reads : goal.returns-in-Ok-Some-clause-reads
returns-in-Ok-Some-clause-reads g c =
    subst (λ (o : Option (List Look)). AddsOnly (IsHeadLook (g.S.Store.files c.args.store.now) (index_file c.args.self.now)) o (g.S.Store.reads c.index_at.new.store)) c.len.ensures.reads
    (subst (λ (o : Option Files). AddsOnly (IsHeadLook o (index_file c.args.self.now)) (g.S.Store.reads c.len.new.self) (g.S.Store.reads c.index_at.new.store)) c.len.ensures.files
    c.index_at.ensures.reads)
