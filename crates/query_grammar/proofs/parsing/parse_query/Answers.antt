use Rattle.where_grammar.proofs.TextLaws.{along}
use Rattle.query_grammar.proofs.TextLaws.{gives_no_query, gives_query, no_query_read, spelled_read}
use Rattle.query_grammar.proofs.parsing.parse_query.Goals as goal

pub returns-clause-found : goal.returns-clause-found
returns-clause-found c = gives_query c.args.text.now c.parsed.result c.parsed.ensures

pub returns-clause-only : goal.returns-clause-only
returns-clause-only c = λ q is. along c.parsed.result _ _ c.parsed.ensures (spelled_read c.args.text.now q is)

pub returns-clause-refused : goal.returns-clause-refused
returns-clause-refused c = gives_no_query c.args.text.now c.parsed.result c.parsed.ensures

pub returns-clause-refuses : goal.returns-clause-refuses
returns-clause-refuses c = λ k no. along c.parsed.result _ _ c.parsed.ensures (no_query_read c.args.text.now k no)
