use Rattle.std.proofs.Common.{rules, ◌≡◌, is_some, true}
use Rattle.fb_types.specs.Types.{width_of}
use Rattle.ibis.proofs.ListLemmas.{line_gives}
use Rattle.ibis.proofs.listing.push_index.Goals as goal

pub returns-in_ok-push_index_line-in-Ok-Some-clause-gives : goal.returns-in_ok-push_index_line-in-Ok-Some-clause-gives
returns-in_ok-push_index_line-in-Ok-Some-clause-gives g c =
    let wide : is_some (width_of c.args.column.now.ty) ≡ true = search rules in
    line_gives (g.S.Store.files c.args.store.now) c.args.dataset.now c.args.part.now c.args.column.now c.in-Ok-Some.head _ _ wide
    (rw c.in-Ok-Some.field-0-is at c.in-Ok-Some.ensures.exact) (rw c.in_ok-push_index_line-in-Ok-Some.was at c.push_index_line.ensures)
