use Rattle.std.proofs.lemmas.Result.{err_from_is_err_and}
use Rattle.query_grammar.proofs.PickLaws.{refused_items, refused_order}
use Rattle.query_grammar.proofs.picking.pick_of.Goals as goal

pub returns-in_err-all_picked-clause-refused : goal.returns-in_err-all_picked-clause-refused
returns-in_err-all_picked-clause-refused c =
    let p = err_from_is_err_and c.from_residual.result c.from_residual.ensures.1 in
    rw (p.1, p.2) (refused_items c.args.schema.now c.args.items.now c.args.order.now _ c.in_err-all_picked.ensures.refused)

pub returns-in_err-all_placed-clause-refused : goal.returns-in_err-all_placed-clause-refused
returns-in_err-all_placed-clause-refused c =
    let p = err_from_is_err_and c.from_residual-in_err-all_placed.result c.from_residual-in_err-all_placed.ensures.1 in
    rw (p.1, p.2) (refused_order c.args.schema.now c.args.items.now c.in_ok-all_picked.field-0 c.args.order.now _ c.in_ok-all_picked.ensures.found c.in_err-all_placed.ensures.refused)
