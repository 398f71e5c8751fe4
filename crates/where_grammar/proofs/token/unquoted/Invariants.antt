use Rattle.std.proofs.Common.{◌≡◌, length}
use Rattle.where_grammar.specs.Tokens.{unquoted}
use Rattle.where_grammar.proofs.Quotes.{put}
use Rattle.where_grammar.proofs.token.unquoted.Given as goal

abbrev pub invariant-loop-rest : goal.invariant-loop-rest
invariant-loop-rest l = unquoted l.quote l.text ≡ put l.word.items (unquoted l.quote l.rest)

abbrev pub decreases-loop-rest : goal.decreases-loop-rest
decreases-loop-rest l = length l.rest
