use Rattle.std.proofs.Common.{refl}
use Rattle.where_grammar.specs.Rows.{columns, words, truths}
use Rattle.where_grammar.proofs.truth.the_truth_of_words.Goals as goal

pub returns-clause-same : goal.returns-clause-same
unfolding columns words truths
returns-clause-same c = refl

pub returns-clause-other : goal.returns-clause-other
unfolding columns words truths
returns-clause-other c = refl

pub returns-clause-listed : goal.returns-clause-listed
unfolding columns words truths
returns-clause-listed c = refl

pub returns-clause-like : goal.returns-clause-like
unfolding columns words truths
returns-clause-like c = refl

pub returns-clause-exists : goal.returns-clause-exists
unfolding columns words truths
returns-clause-exists c = refl

pub returns-clause-no_number : goal.returns-clause-no_number
unfolding columns words truths
returns-clause-no_number c = refl
