use Rattle.where_grammar.proofs.Readings.{one_clause}
use Rattle.where_grammar.proofs.parsing.the_grammar_is_unambiguous.Goals as goal

pub returns : goal.returns
returns c = one_clause
