use Rattle.std.proofs.Common.{◌≡◌, ◌++◌, drop, map}
use Rattle.where_grammar.specs.Grammar.{behind_commas}
use Rattle.where_grammar.proofs.printing.push_more.Given as goal

abbrev pub invariant-loop-item : goal.invariant-loop-item
invariant-loop-item g l = l.out ++ behind_commas (map g.T.Item.as_token (drop l.item-index l.items)) ≡ l.fn.out ++ behind_commas (map g.T.Item.as_token l.items)
