use Rattle.three_valued.proofs.RowLemmas.{answers_of_same, bounds_same}
use Rattle.three_valued.proofs.row_answers.Answers.known.Goals as goal

pub invariant_of-result : goal.invariant_of-result
invariant_of-result c = bounds_same c.args.definite

pub returns : goal.returns
returns c = answers_of_same c.args.definite
