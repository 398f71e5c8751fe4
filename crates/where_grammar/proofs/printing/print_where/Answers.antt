use Rattle.where_grammar.proofs.PrintLaws.{read_again}
use Rattle.where_grammar.proofs.printing.print_where.Goals as goal

pub returns-in_err-push_clause-clause-read_again : goal.returns-in_err-push_clause-clause-read_again
returns-in_err-push_clause-clause-read_again c = read_again c.args.clause.now

pub returns-in_err-written-clause-read_again : goal.returns-in_err-written-clause-read_again
returns-in_err-written-clause-read_again c = read_again c.args.clause.now

pub returns-clause-read_again : goal.returns-clause-read_again
returns-clause-read_again c = read_again c.args.clause.now
