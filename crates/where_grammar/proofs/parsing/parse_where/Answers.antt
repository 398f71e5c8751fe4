use Rattle.where_grammar.proofs.TextLaws.{along}
use Rattle.where_grammar.proofs.ClauseLaws.{gives_clause, gives_no_clause, no_clause_read, spelled_read}
use Rattle.where_grammar.proofs.parsing.parse_where.Goals as goal

pub returns-clause-found : goal.returns-clause-found
returns-clause-found c = gives_clause c.args.text.now c.parsed.result c.parsed.ensures

pub returns-clause-only : goal.returns-clause-only
returns-clause-only c = λ d is. along c.parsed.result _ _ c.parsed.ensures (spelled_read c.args.text.now d is)

pub returns-clause-refused : goal.returns-clause-refused
returns-clause-refused c = gives_no_clause c.args.text.now c.parsed.result c.parsed.ensures

pub returns-clause-refuses : goal.returns-clause-refuses
returns-clause-refuses c = λ k no. along c.parsed.result _ _ c.parsed.ensures (no_clause_read c.args.text.now k no)
