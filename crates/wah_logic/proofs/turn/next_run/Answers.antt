use Rattle.std.proofs.Common.{length, Some, ap, ◌∙◌, arith}
use Rattle.wah_words.specs.declared.run.Run.TheVariants as runs
use Rattle.wah_logic.proofs.WalkLemmas.{taken, length-taken}
use Rattle.wah_logic.proofs.turn.next_run.Goals as goal

pub join_literal-requires-clause-same : goal.join_literal-requires-clause-same
join_literal-requires-clause-same g c =
    let run = runs.Literal c.in-Some-Literal.word in
    let t = taken c.args.a.now c.take.new.self c.take.result run (c.in-Some-Literal.is ∙ ap (λ r. Some r) c.in-Some-Literal.field-0-is) c.take.ensures.takes in
    let l = length-taken c.args.a.now c.take.new.self run t in
    omega (arith, l, c.requires)

pub join_tail-requires-clause-same : goal.join_tail-requires-clause-same
join_tail-requires-clause-same g c =
    let run = runs.Tail c.in-Some-Tail.bits c.in-Some-Tail.count in
    let t = taken c.args.a.now c.take.new.self c.take.result run (c.in-Some-Tail.is ∙ ap (λ r. Some r) c.in-Some-Tail.field-0-is) c.take.ensures.takes in
    let l = length-taken c.args.a.now c.take.new.self run t in
    omega (arith, l, c.requires, ap length t.2.3)
