use Rattle.std.proofs.lemmas.Result.{err_from_is_err_and}
use Rattle.query_grammar.specs.Picks.{IsPicked}
use Rattle.query_grammar.proofs.PickLaws.{all_picked_refused, zip_step}
use Rattle.query_grammar.proofs.picking.all_picked.Goals as goal

pub returns-in_err-picked-clause-refused : goal.returns-in_err-picked-clause-refused
returns-in_err-picked-clause-refused c =
    let p = err_from_is_err_and c.from_residual.result c.from_residual.ensures.1 in
    rw (p.1, p.2) (all_picked_refused c.args.schema.now c.args.items.now c.loop-item.picks c.loop-item.item-index c.item-item.result _ c.loop-item-test.true c.item-item.is c.loop-item.invariant c.in_err-picked.ensures.refused)

pub loop-item-preserved : goal.loop-item-preserved
loop-item-preserved c =
    zip_step (IsPicked c.args.schema.now) c.args.items.now c.loop-item.picks c.push.new.self c.loop-item.item-index c.item-item.result c.in_ok-picked.field-0 c.loop-item-test.true c.item-item.is c.loop-item.invariant c.in_ok-picked.ensures.found c.in_ok-push.ensures.ok
