use Rattle.std.proofs.Common.{◌≡◌, ◌+◌, ◌≤◌, ◌||◌, drop}
use Rattle.where_grammar.specs.Limits.{most_nots, most_open}
use Rattle.where_grammar.specs.Nesting.{is_crowded, is_deep, is_much_negated}
use Rattle.where_grammar.specs.Parsing.{bare}
use Rattle.where_grammar.proofs.nesting.is_deep.Given as goal

abbrev pub invariant-loop-placed : goal.invariant-loop-placed
invariant-loop-placed l = record {
  same : (is_crowded l.room (bare (drop l.placed-index l.tokens)) || is_much_negated l.nots (bare (drop l.placed-index l.tokens))) ≡ is_deep (bare l.tokens);
  spare : l.room ≤ most_open + l.placed-index;
  few : l.nots ≤ most_nots;
}
