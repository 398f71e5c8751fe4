use Rattle.std.proofs.Common.{◌≡◌, ◌≤◌, length}
use Rattle.lexing.specs.Tokens.{tokens_from}
use Rattle.lexing.proofs.Steps.{before}
use Rattle.lexing.proofs.reading.tokens.Given as goal

abbrev pub invariant-loop-rest : goal.invariant-loop-rest
invariant-loop-rest g l = record {
  so_far : tokens_from g.T.Lexeme.reader (length l.text) l.text ≡ before l.tokens (tokens_from g.T.Lexeme.reader (length l.text) l.rest);
  within : length l.rest ≤ length l.text;
}

abbrev pub decreases-loop-rest : goal.decreases-loop-rest
decreases-loop-rest g l = length l.rest
