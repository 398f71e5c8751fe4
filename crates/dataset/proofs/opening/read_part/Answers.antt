use Rattle.std.proofs.Common.{◌∙◌, sym}
use Rattle.dataset.proofs.OpeningLemmas.{part_damaged, part_missing, part_reads}
use Rattle.dataset.proofs.opening.read_part.Goals as goal

pub returns-in_default-clause-unread : goal.returns-in_default-clause-unread
returns-in_default-clause-unread g c =
    rw c.damaged.ensures
    (part_missing _ c.args.dir.now c.in_ok-file.file c.args.catalog.now c.args.number c.in_ok-file.ensures
    (rw c.in_default.is at c.in_ok-bytes.ensures.given))

pub returns-in_err-part-clause-reads : goal.returns-in_err-part-clause-reads
returns-in_err-part-clause-reads g c =
    part_reads _ c.args.dir.now c.in_ok-file.file c.args.number _ _ c.requires.number c.in_ok-file.ensures c.file_bytes.ensures.reads

pub returns-in-Some-2-clause-reads : goal.returns-in-Some-2-clause-reads
returns-in-Some-2-clause-reads g c =
    part_reads _ c.args.dir.now c.in_ok-file.file c.args.number _ _ c.requires.number c.in_ok-file.ensures c.file_bytes.ensures.reads

pub returns-in-None-clause-reads : goal.returns-in-None-clause-reads
returns-in-None-clause-reads g c =
    part_reads _ c.args.dir.now c.in_ok-file.file c.args.number _ _ c.requires.number c.in_ok-file.ensures c.file_bytes.ensures.reads

pub returns-in-None-clause-unread : goal.returns-in-None-clause-unread
returns-in-None-clause-unread g c =
    rw c.damaged-in-None.ensures
    (part_damaged _ c.args.dir.now c.in_ok-file.file c.in-Some.bytes.items c.args.catalog.now c.args.number c.in_ok-file.ensures
    (rw c.in-Some.is at c.in_ok-bytes.ensures.given)
    (λ rows valid same. (rw c.in-None.is at c.in_ok-part.ensures) rows valid (same ∙ sym c.deref.ensures.value)))
