use Rattle.std.proofs.Common.{◌≡◌, ◌+◌, drop}
use Rattle.std.specs.List.{prefix_len}
use Rattle.where_grammar.specs.Nesting.{is_not}
use Rattle.where_grammar.specs.Parsing.{bare}
use Rattle.where_grammar.proofs.fronts.nots_len.Given as goal

abbrev pub invariant-loop-placed : goal.invariant-loop-placed
invariant-loop-placed l = record {
  rest : l.n + prefix_len is_not (bare (drop l.placed-index l.tokens)) ≡ prefix_len is_not (bare l.tokens);
  count : l.n ≡ l.placed-index;
}
