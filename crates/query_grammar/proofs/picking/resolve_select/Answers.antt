use Rattle.query_grammar.proofs.PickLaws.{answers_pick, answers_refusal, given_sound}
use Rattle.query_grammar.proofs.picking.resolve_select.Goals as goal

pub returns-clause-only : goal.returns-clause-only
returns-clause-only c = λ p is. answers_pick c.args.schema.now c.args.query.now c.resolved.result p c.resolved.ensures.found c.resolved.ensures.refused is

pub returns-clause-refuses : goal.returns-clause-refuses
returns-clause-refuses c = λ k e. answers_refusal c.args.schema.now c.args.query.now c.resolved.result k c.resolved.ensures.found c.resolved.ensures.refused e

pub returns-clause-sound : goal.returns-clause-sound
returns-clause-sound c = given_sound c.args.schema.now c.args.query.now c.resolved.result c.resolved.ensures.found
