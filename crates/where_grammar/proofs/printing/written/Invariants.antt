use Rattle.std.proofs.Common.{◌≡◌, ◌++◌, true, drop}
use Rattle.where_grammar.specs.Printed.{written}
use Rattle.where_grammar.proofs.printing.written.Given as goal

abbrev pub invariant-loop-token : goal.invariant-loop-token
invariant-loop-token l = l.text.items ++ written l.starts (drop l.token-index l.tokens) ≡ written true l.tokens
