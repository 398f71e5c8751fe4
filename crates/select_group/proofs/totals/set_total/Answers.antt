use Rattle.std.proofs.Common.{◌≡◌, false, cond, sym, subst}
use Rattle.std.specs.Prelude.{slice_index_or, slice_set}
use Rattle.std.proofs.lemmas.List.{set-get_or}
use Rattle.fb_types.specs.declared.cells.Cell.TheVariants.{Null}
use Rattle.query_grammar.specs.Picks.{is_total}
use Rattle.select_group.proofs.totals.set_total.Goals as goal

pub returns-else-is_total : goal.returns-else-is_total
returns-else-is_total c =
    let plain : is_total c.args.item ≡ false = cc in
    subst (λ t. c.args.cells.now ≡ slice_set c.args.cells.now c.args.place (cond t c.args.cell (slice_index_or c.args.cells.now c.args.place Null))) (sym plain) (sym (set-get_or c.args.cells.now c.args.place Null))
