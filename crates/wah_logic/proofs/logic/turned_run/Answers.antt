use Rattle.std.proofs.Common.{◌-◌, ◌*◌, not, map, ap, sym, ◌∙◌, arith}
use Rattle.wah_words.specs.Left.{run_values}
use Rattle.wah_logic.proofs.NotLemmas.{places_not, replicate_not, tail_not}
use Rattle.wah_logic.proofs.logic.turned_run.Goals as goal

pub returns-in-Fill-clause-values : goal.returns-in-Fill-clause-values
returns-in-Fill-clause-values c = replicate_not (31 * c.in-Fill.groups) c.in-Fill.bit ∙ ap (λ r. map not (run_values r)) (sym c.in-Fill.is)

pub returns-in-Literal-clause-values : goal.returns-in-Literal-clause-values
returns-in-Literal-clause-values c =
    let part = rw c.in-Literal.is at c.requires.part in
    places_not 31 (2147483647 - c.in-Literal.word) c.in-Literal.word (omega (arith, part)) ∙ ap (λ r. map not (run_values r)) (sym c.in-Literal.is)

pub returns-in-Tail-clause-values : goal.returns-in-Tail-clause-values
returns-in-Tail-clause-values c =
    let part = rw c.in-Tail.is at c.requires.part in
    tail_not c.in-Tail.count c.in-Tail.bits part.1 part.2 ∙ ap (λ r. map not (run_values r)) (sym c.in-Tail.is)
