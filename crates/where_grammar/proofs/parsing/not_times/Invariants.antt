use Rattle.std.proofs.Common.{◌≡◌}
use Rattle.where_grammar.specs.Parsing.{not_times}
use Rattle.where_grammar.proofs.parsing.not_times.Given as goal

abbrev pub invariant-loop-time : goal.invariant-loop-time
invariant-loop-time l = l.clause ≡ not_times l._time l.fn.clause
