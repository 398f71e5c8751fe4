use Rattle.std.proofs.Common.{◌∙◌}
use Rattle.column_file.proofs.OpeningLemmas.{told_bytes, opens_spelled}
use Rattle.column_file.proofs.masks.open_mask.Goals as goal

pub returns-in-Ok-Some-clause-only : goal.returns-in-Ok-Some-clause-only
returns-in-Ok-Some-clause-only g c bits rows limit told =
    let spelled = told_bytes (g.S.Store.files c.args.store.now) c.args.name.now c.in-Ok-Some.bytes.items _ (rw c.in-Ok-Some.field-0-is at c.in-Ok-Some.ensures.given) told in
    opens_spelled c.args.rows bits c.deref.result.now c.mask_of.result rows limit (c.deref.ensures.value ∙ spelled) c.mask_of.ensures.exact
