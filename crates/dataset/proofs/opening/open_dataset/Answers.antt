use Rattle.fb_outside.proofs.ReadLemmas.{AddsOnly-trans}
use Rattle.dataset.specs.Opened.{IsTextLook}
use Rattle.dataset.proofs.LookLemmas.{all_listed}
use Rattle.dataset.proofs.opening.open_dataset.Goals as goal

pub returns-in_err-parts-clause-reads : goal.returns-in_err-parts-clause-reads
returns-in_err-parts-clause-reads g c =
    AddsOnly-trans (IsTextLook c.args.dir.now) _ _ _ c.read_catalog.ensures.reads c.read_parts.ensures.reads

pub returns-in_err-dir-clause-reads : goal.returns-in_err-dir-clause-reads
returns-in_err-dir-clause-reads g c =
    AddsOnly-trans (IsTextLook c.args.dir.now) _ _ _ c.read_catalog.ensures.reads c.read_parts.ensures.reads

pub returns-clause-reads : goal.returns-clause-reads
returns-clause-reads g c =
    AddsOnly-trans (IsTextLook c.args.dir.now) _ _ _ c.read_catalog.ensures.reads c.read_parts.ensures.reads

pub returns-in_err-parts-clause-listed : goal.returns-in_err-parts-clause-listed
returns-in_err-parts-clause-listed g c =
    all_listed _ _ c.args.dir.now c.in_ok-catalog.catalog _ _ _ c.read_catalog.ensures.files c.in_ok-catalog.ensures.read
    c.read_catalog.ensures.listed c.read_parts.ensures.listed

pub returns-in_err-dir-clause-listed : goal.returns-in_err-dir-clause-listed
returns-in_err-dir-clause-listed g c =
    all_listed _ _ c.args.dir.now c.in_ok-catalog.catalog _ _ _ c.read_catalog.ensures.files c.in_ok-catalog.ensures.read
    c.read_catalog.ensures.listed c.read_parts.ensures.listed

pub returns-clause-listed : goal.returns-clause-listed
returns-clause-listed g c =
    all_listed _ _ c.args.dir.now c.in_ok-catalog.catalog _ _ _ c.read_catalog.ensures.files c.in_ok-catalog.ensures.read
    c.read_catalog.ensures.listed c.read_parts.ensures.listed
