use Rattle.std.proofs.Common.{◌≡◌, ◌+◌, drop}
use Rattle.where_grammar.specs.Parsing.{bare}
use Rattle.query_grammar.specs.Reading.{clause_len}
use Rattle.query_grammar.proofs.fronts.clause_len.Given as goal

abbrev pub invariant-loop-placed : goal.invariant-loop-placed
invariant-loop-placed l = record {
  rest : l.n + clause_len (bare (drop l.placed-index l.tokens)) ≡ clause_len (bare l.tokens);
  count : l.n ≡ l.placed-index;
}
