use Rattle.std.proofs.Common.{◌≡◌, ◌+◌, ◌≤◌, drop}
use Rattle.where_grammar.specs.Parsing.{bare, commas_before_close}
use Rattle.where_grammar.proofs.parsing.commas_before_close.Given as goal

abbrev pub invariant-loop-placed : goal.invariant-loop-placed
invariant-loop-placed l = record {
  rest : l.commas + commas_before_close (bare (drop l.placed-index l.tokens)) ≡ commas_before_close (bare l.tokens);
  few : l.commas ≤ l.placed-index;
}
