use Rattle.std.proofs.Common.{◌∙◌, sym}
use Rattle.dataset.proofs.OpeningLemmas.{catalog_damaged, catalog_reads}
use Rattle.dataset.proofs.opening.read_catalog.Goals as goal

pub returns-in-Err-At-clause-unread : goal.returns-in-Err-At-clause-unread
returns-in-Err-At-clause-unread g c =
    rw c.damaged.ensures
    (catalog_damaged _ c.args.dir.now c.in_ok-file.file c.in-Some.bytes.items c.in_ok-file.ensures
    (rw c.in-Some.is at c.in_ok-bytes.ensures.given)
    (λ catalog valid same.
    rw c.in-Err-At.field-0-is at (c.in-Err-At.ensures.exact catalog valid (c.deref.ensures.value ∙ sym same))))

pub returns-in-Err-OutOfMemory-clause-reads : goal.returns-in-Err-OutOfMemory-clause-reads
returns-in-Err-OutOfMemory-clause-reads g c =
    catalog_reads _ c.args.dir.now c.in_ok-file.file _ _ c.in_ok-file.ensures c.file_bytes.ensures.reads
