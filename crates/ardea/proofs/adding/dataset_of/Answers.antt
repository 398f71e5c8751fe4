use Rattle.ardea.proofs.AnswerLemmas.{catalog_broken, catalog_there}
use Rattle.ardea.proofs.adding.dataset_of.Goals as goal

pub returns-in-Ok-clause-catalog : goal.returns-in-Ok-clause-catalog
returns-in-Ok-clause-catalog g c = catalog_there c.args.dir.now c.args.schema.now _ c.in-Ok.dataset c.in-Ok.ensures.opened

pub returns-in-Err-Damaged-clause-stop : goal.returns-in-Err-Damaged-clause-stop
returns-in-Err-Damaged-clause-stop g c =
    catalog_broken c.args.dir.now c.args.schema.now _
    (record { file = c.in-Err-Damaged.file; kind = c.in-Err-Damaged.kind; want = c.in-Err-Damaged.want; have = c.in-Err-Damaged.have })
    (rw c.in-Err-Damaged.field-0-is at c.in-Err-Damaged.ensures.unopened)
