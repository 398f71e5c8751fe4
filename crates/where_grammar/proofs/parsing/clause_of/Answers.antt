use Rattle.where_grammar.proofs.TextLaws.{along}
use Rattle.where_grammar.proofs.ClauseLaws.{read_clause, read_long, read_only, read_refused}
use Rattle.where_grammar.proofs.parsing.clause_of.Goals as goal

pub returns-clause-found : goal.returns-clause-found
returns-clause-found c = read_clause c.args.tokens.now c.clause_read.result c.clause_read.ensures

pub returns-clause-long : goal.returns-clause-long
returns-clause-long c = read_long c.args.tokens.now c.clause_read.result c.clause_read.ensures

pub returns-clause-only : goal.returns-clause-only
returns-clause-only c = λ d is. along c.clause_read.result _ _ c.clause_read.ensures (read_only c.args.tokens.now d is c.requires)

pub returns-clause-refused : goal.returns-clause-refused
returns-clause-refused c = read_refused c.args.tokens.now c.clause_read.result c.requires c.clause_read.ensures
