use Rattle.std.proofs.Common.{◌≡◌, map, subst}
use Rattle.three_valued.specs.Tables.{is_possible}
use Rattle.three_valued.specs.Rows.{possible_of}
use Rattle.three_valued.proofs.RowLemmas.{possible_kept}
use Rattle.three_valued.proofs.row_answers.Answers.possible.Goals as goal

pub returns-in-None : goal.returns-in-None
returns-in-None c =
    subst (λ o. possible_of c.self.inside.definite o ≡ map is_possible c.args.self.now) c.in-None.is (possible_kept c.self.inside.definite c.self.inside.possible c.args.self.now c.self.invariant c.self.view_is)

pub returns-in-Some : goal.returns-in-Some
returns-in-Some c =
    subst (λ o. possible_of c.self.inside.definite o ≡ map is_possible c.args.self.now) c.in-Some.is (possible_kept c.self.inside.definite c.self.inside.possible c.args.self.now c.self.invariant c.self.view_is)
