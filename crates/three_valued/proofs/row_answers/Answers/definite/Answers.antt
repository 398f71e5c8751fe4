use Rattle.three_valued.proofs.RowLemmas.{yes_kept}
use Rattle.three_valued.proofs.row_answers.Answers.definite.Goals as goal

pub returns : goal.returns
returns c = yes_kept c.self.inside.definite c.self.inside.possible c.args.self.now c.self.invariant c.self.view_is
