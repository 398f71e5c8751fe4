use Rattle.three_valued.proofs.RowLemmas.{known_kept}
use Rattle.three_valued.proofs.row_answers.Answers.is_known.Goals as goal

pub returns : goal.returns
returns c = λ h. known_kept c.self.inside.definite c.self.inside.possible c.args.self.now c.is_none.result c.self.invariant c.self.view_is c.is_none.ensures h
