use Rattle.std.proofs.Common.{◌∙◌}
use Rattle.three_valued.proofs.RowLemmas.{undecided_answers_of, undecided_bounds_of}
use Rattle.three_valued.proofs.row_answers.Answers.unknown_on.Goals as goal

pub within-requires : goal.within-requires
within-requires c = undecided_bounds_of c.in_ok-definite.definite c.args.unknown c.len.result c.in_ok-definite.ensures c.len.ensures.length

pub returns : goal.returns
returns c = c.within.ensures ∙ undecided_answers_of c.in_ok-definite.definite c.args.unknown c.len.result c.in_ok-definite.ensures c.len.ensures.length
