use Rattle.std.proofs.Common.{◌≡◌, length, ap, sym, ◌∙◌}
use Rattle.three_valued.proofs.RowLemmas.{length-answers_of}
use Rattle.three_valued.proofs.tests.answers.Goals as goal

pub returns : goal.returns
returns g c =
    let definite : length c.in-Some.definite ≡ 9 = rw c.in-Some.is at c.in_ok-definite.ensures in
    let unknown : length c.in-Some-2.unknown ≡ 9 = rw c.in-Some-2.is at c.in_ok-unknown.ensures in
    ap length c.in_ok-with_unknown.ensures.answers ∙ length-answers_of c.in-Some.definite c.in-Some-2.unknown (definite ∙ sym unknown) ∙ definite
