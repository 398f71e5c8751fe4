use Rattle.std.proofs.Common.{refl, sym, ◌∙◌}
use Rattle.query_grammar.specs.Picks.{IsPlaced}
use Rattle.query_grammar.proofs.PickLaws.{all_placed_refused, zip_step}
use Rattle.query_grammar.proofs.picking.all_placed.Goals as goal

pub returns-in-None-clause-refused : goal.returns-in-None-clause-refused
returns-in-None-clause-refused c =
    all_placed_refused c.args.items.now c.args.order.now c.loop-by.places c.loop-by.by-index c.by-item.result c.loop-by-test.true c.by-item.is c.loop-by.invariant (sym c.place_in.ensures ∙ c.in-None.is)

pub loop-by-preserved : goal.loop-by-preserved
loop-by-preserved c =
    zip_step (IsPlaced c.args.items.now) c.args.order.now c.loop-by.places c.push.new.self c.loop-by.by-index c.by-item.result (record { place = c.in-Some.place; down = c.by-item.result.down }) c.loop-by-test.true c.by-item.is c.loop-by.invariant (sym c.place_in.ensures ∙ c.in-Some.is, refl) c.in_ok-push-in-Some.ensures.ok
