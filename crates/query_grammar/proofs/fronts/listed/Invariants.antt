use Rattle.std.proofs.Common.{◌≡◌, length}
use Rattle.where_grammar.specs.Parsing.{bare}
use Rattle.where_grammar.proofs.Lists.{put_items}
use Rattle.query_grammar.specs.Reading.{listed_at}
use Rattle.query_grammar.proofs.Steps.{more_here}
use Rattle.query_grammar.proofs.fronts.listed.Given as goal

abbrev pub invariant-loop-behind : goal.invariant-loop-behind
invariant-loop-behind g l = put_items l.list (more_here g.T.ListItem.part (bare l.rest)) ≡ listed_at g.T.ListItem.part (bare l.tokens)

abbrev pub decreases-loop-behind : goal.decreases-loop-behind
decreases-loop-behind g l = length l.rest
