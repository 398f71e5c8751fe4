use Rattle.std.proofs.Common.{take}
use Rattle.query_grammar.specs.Picks.{ArePicked}
use Rattle.query_grammar.proofs.picking.all_picked.Given as goal

abbrev pub invariant-loop-item : goal.invariant-loop-item
invariant-loop-item l = ArePicked l.schema (take l.item-index l.items) l.picks
