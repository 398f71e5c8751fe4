use Rattle.std.proofs.Common.{◌≡◌, ◌++◌, drop}
use Rattle.where_grammar.specs.Tokens.{doubled}
use Rattle.where_grammar.proofs.printing.push_doubled.Given as goal

abbrev pub invariant-loop-byte : goal.invariant-loop-byte
invariant-loop-byte l = l.out.items ++ doubled 34 (drop l.byte-index l.text) ≡ l.fn.out.items ++ doubled 34 l.text
