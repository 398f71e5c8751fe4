use Rattle.std.proofs.Common.{◌≡◌, length, ◌∙◌, arith}
use Rattle.three_valued.proofs.RowLemmas.{length_kept}
use Rattle.three_valued.proofs.row_answers.Answers.len.Goals as goal

pub returns-clause-length : goal.returns-clause-length
returns-clause-length c = c.len.ensures.length ∙ length_kept c.self.inside.definite c.self.inside.possible c.args.self.now c.self.invariant c.self.view_is

pub returns-clause-limit : goal.returns-clause-limit
returns-clause-limit c =
    let same = length_kept c.self.inside.definite c.self.inside.possible c.args.self.now c.self.invariant c.self.view_is in
    omega (arith, same, c.len.ensures.limit)
