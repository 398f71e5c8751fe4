use Rattle.std.proofs.Common.{ap, sym, ◌∙◌}
use Rattle.wah_words.specs.Left.{run_values}
use Rattle.wah_logic.specs.Logic.{ones}
use Rattle.wah_logic.proofs.OnesLemmas.{count_places}
use Rattle.wah_logic.proofs.logic.ones_of.Goals as goal

pub returns-in-Literal : goal.returns-in-Literal
returns-in-Literal c =
    let part = rw c.in-Literal.is at c.requires.part in
    count_places 31 c.in-Literal.word part ∙ ap (λ r. ones (run_values r)) (sym c.in-Literal.is)

pub returns-in-Tail : goal.returns-in-Tail
returns-in-Tail c =
    let part = rw c.in-Tail.is at c.requires.part in
    count_places c.in-Tail.count c.in-Tail.bits part.2 ∙ ap (λ r. ones (run_values r)) (sym c.in-Tail.is)
