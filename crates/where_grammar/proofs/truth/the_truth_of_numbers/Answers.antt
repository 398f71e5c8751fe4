use Rattle.std.proofs.Common.{refl}
use Rattle.where_grammar.specs.Rows.{columns, numbers, truths}
use Rattle.where_grammar.proofs.truth.the_truth_of_numbers.Goals as goal

pub returns-clause-less : goal.returns-clause-less
unfolding columns numbers truths
returns-clause-less c = refl

pub returns-clause-less_or_equal : goal.returns-clause-less_or_equal
unfolding columns numbers truths
returns-clause-less_or_equal c = refl

pub returns-clause-greater : goal.returns-clause-greater
unfolding columns numbers truths
returns-clause-greater c = refl

pub returns-clause-greater_or_equal : goal.returns-clause-greater_or_equal
unfolding columns numbers truths
returns-clause-greater_or_equal c = refl

pub returns-clause-equal : goal.returns-clause-equal
unfolding columns numbers truths
returns-clause-equal c = refl

pub returns-clause-differs : goal.returns-clause-differs
unfolding columns numbers truths
returns-clause-differs c = refl

pub returns-clause-double : goal.returns-clause-double
unfolding columns numbers truths
returns-clause-double c = refl

pub returns-clause-between : goal.returns-clause-between
unfolding columns numbers truths
returns-clause-between c = refl

pub returns-clause-listed : goal.returns-clause-listed
unfolding columns numbers truths
returns-clause-listed c = refl

pub returns-clause-exists : goal.returns-clause-exists
unfolding columns numbers truths
returns-clause-exists c = refl

pub returns-clause-other_column : goal.returns-clause-other_column
unfolding columns numbers truths
returns-clause-other_column c = refl
