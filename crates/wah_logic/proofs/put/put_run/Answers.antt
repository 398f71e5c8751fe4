use Rattle.std.proofs.Common.{length, ap, ◌∙◌, arith}
use Rattle.wah_words.specs.declared.run.Run.TheVariants as runs
use Rattle.wah_words.specs.Left.{run_values}
use Rattle.wah_logic.proofs.WalkLemmas.{length-run_values}
use Rattle.wah_logic.proofs.put.put_run.Goals as goal

pub put_literals-requires-clause-same : goal.put_literals-requires-clause-same
put_literals-requires-clause-same g c =
    let l = ap (λ r. length (run_values r)) c.in-Literal.is ∙ length-run_values (runs.Literal c.in-Literal.word) in
    omega (arith, l, c.requires.same)

pub put_tail-requires-clause-same : goal.put_tail-requires-clause-same
put_tail-requires-clause-same g c =
    let part = rw c.in-Tail.is at c.requires.part in
    let l = ap (λ r. length (run_values r)) c.in-Tail.is ∙ length-run_values (runs.Tail c.in-Tail.bits c.in-Tail.count) in
    omega (arith, l, ap length part.3, c.requires.same)

pub put_tail-requires-clause-limit : goal.put_tail-requires-clause-limit
put_tail-requires-clause-limit g c =
    let l = ap (λ r. length (run_values r)) c.in-Tail.is ∙ length-run_values (runs.Tail c.in-Tail.bits c.in-Tail.count) in
    omega (arith, l, c.requires.same, c.requires.limit)

pub put_fills-requires-clause-same : goal.put_fills-requires-clause-same
put_fills-requires-clause-same g c =
    let l = ap (λ r. length (run_values r)) c.in-Fill.is ∙ length-run_values (runs.Fill c.in-Fill.bit c.in-Fill.groups) in
    omega (arith, l, c.requires.same)
