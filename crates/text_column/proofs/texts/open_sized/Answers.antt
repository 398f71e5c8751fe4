use Rattle.std.proofs.Common.{subst}
use Rattle.fb_outside.specs.Reads.{AddsOnly, IsWholeLook}
use Rattle.text_column.proofs.OpenedLemmas.{looks_both}
use Rattle.text_column.proofs.texts.open_sized.Goals as goal

pub returns-in_err-mask-clause-reads : goal.returns-in_err-mask-clause-reads
returns-in_err-mask-clause-reads g c =
    let files = g.S.Store.files c.args.store.now in
    looks_both (IsWholeLook files c.args.starts_name.now) (IsWholeLook files c.args.mask_name.now) _ _ _ c.read_starts.ensures.reads
    (subst (λ f. AddsOnly (IsWholeLook f c.args.mask_name.now) (g.S.Store.reads c.read_starts.new.store) (g.S.Store.reads c.read_mask.new.store)) c.read_starts.ensures.files
    c.read_mask.ensures.reads)

pub returns-in_default-clause-reads : goal.returns-in_default-clause-reads
returns-in_default-clause-reads g c =
    let files = g.S.Store.files c.args.store.now in
    looks_both (IsWholeLook files c.args.starts_name.now) (IsWholeLook files c.args.mask_name.now) _ _ _ c.read_starts.ensures.reads
    (subst (λ f. AddsOnly (IsWholeLook f c.args.mask_name.now) (g.S.Store.reads c.read_starts.new.store) (g.S.Store.reads c.read_mask.new.store)) c.read_starts.ensures.files
    c.read_mask.ensures.reads)

pub returns-clause-reads : goal.returns-clause-reads
returns-clause-reads g c =
    let files = g.S.Store.files c.args.store.now in
    looks_both (IsWholeLook files c.args.starts_name.now) (IsWholeLook files c.args.mask_name.now) _ _ _ c.read_starts.ensures.reads
    (subst (λ f. AddsOnly (IsWholeLook f c.args.mask_name.now) (g.S.Store.reads c.read_starts.new.store) (g.S.Store.reads c.read_mask.new.store)) c.read_starts.ensures.files
    c.read_mask.ensures.reads)
