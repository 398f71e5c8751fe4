use Rattle.std.proofs.Common.{◌≡◌, length}
use Rattle.where_grammar.specs.Parsing.{long_of}
use Rattle.where_grammar.proofs.parsing.long_of.Given as goal

abbrev pub invariant-loop-rest : goal.invariant-loop-rest
invariant-loop-rest l = long_of l.rest ≡ long_of l.tokens

abbrev pub decreases-loop-rest : goal.decreases-loop-rest
decreases-loop-rest l = length l.rest
