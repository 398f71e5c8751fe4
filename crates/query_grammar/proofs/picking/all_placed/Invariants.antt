use Rattle.std.proofs.Common.{take}
use Rattle.query_grammar.specs.Picks.{ArePlaced}
use Rattle.query_grammar.proofs.picking.all_placed.Given as goal

abbrev pub invariant-loop-by : goal.invariant-loop-by
invariant-loop-by l = ArePlaced l.items (take l.by-index l.order) l.places
