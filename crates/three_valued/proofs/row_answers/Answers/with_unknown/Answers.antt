use Rattle.std.proofs.Common.{◌∙◌}
use Rattle.three_valued.proofs.RowLemmas.{or_answers_of, or_bounds_of}
use Rattle.three_valued.proofs.row_answers.Answers.with_unknown.Goals as goal

pub within-requires : goal.within-requires
within-requires g c = or_bounds_of c.args.definite c.args.unknown.now c.in_ok-possible.possible c.requires c.in_ok-possible.ensures.values

pub returns-clause-answers : goal.returns-clause-answers
returns-clause-answers g c = c.within.ensures ∙ or_answers_of c.args.definite c.args.unknown.now c.in_ok-possible.possible c.requires c.in_ok-possible.ensures.values
