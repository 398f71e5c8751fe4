use Rattle.std.proofs.Common.{◌-◌, ◌++◌, ap, ◌∙◌}
use Rattle.candidates.specs.Texts.{meets}
use Rattle.candidates.proofs.FoundLemmas.{tests_of_part}
use Rattle.candidates.proofs.texts.TextsRows.test.Goals as goal

pub returns-clause-found : goal.returns-clause-found
returns-clause-found g c = λ all are.
    c.push_tests.ensures.bits
    ∙ ap (λ l. c.args.found.now.bits ++ l) (tests_of_part (meets c.args.self.now.condition.now) are.texts c.deref.result.now all (c.args.past - c.args.first) c.args.first are.are
    (c.deref.ensures.value ∙ c.in_ok-texts.ensures.texts are.texts are.there))
