use Rattle.std.proofs.Common.{◌≡◌, length}
use Rattle.where_grammar.specs.Parsing.{bare, items_at, items_from}
use Rattle.where_grammar.proofs.Lists.{put_items}
use Rattle.where_grammar.proofs.atoms.items.Given as goal

abbrev pub invariant-loop-token : goal.invariant-loop-token
invariant-loop-token g l = put_items l.list (items_at g.T.Item.part (bare l.rest)) ≡ items_from g.T.Item.part (bare l.tokens)

abbrev pub decreases-loop-token : goal.decreases-loop-token
decreases-loop-token g l = length l.rest
