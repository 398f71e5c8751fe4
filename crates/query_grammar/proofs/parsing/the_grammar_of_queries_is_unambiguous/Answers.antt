use Rattle.query_grammar.proofs.QueryLaws.{one_query}
use Rattle.query_grammar.proofs.parsing.the_grammar_of_queries_is_unambiguous.Goals as goal

pub returns : goal.returns
returns c = one_query
