use Rattle.std.proofs.Common.{Some, ap, ◌∙◌, arith}
use Rattle.wah_words.specs.declared.run.Run.TheVariants as runs
use Rattle.wah_logic.proofs.WalkLemmas.{taken, length-taken}
use Rattle.wah_logic.proofs.PairLemmas.{splits_tails}
use Rattle.wah_logic.proofs.lockstep.pair_tail.Goals as goal

pub unreachable-requires-in-Some-Literal : goal.unreachable-requires-in-Some-Literal
unreachable-requires-in-Some-Literal g c =
    let run = runs.Literal c.in-Some-Literal.field-0-0 in
    let t = taken c.args.b.now c.take.new.self c.take.result run (c.in-Some-Literal.is ∙ ap (λ r. Some r) c.in-Some-Literal.field-0-is) c.take.ensures.takes in
    let l = length-taken c.args.b.now c.take.new.self run t in
    omega (arith, l, c.requires.few, c.requires.same)

pub returns-clause-splits : goal.returns-clause-splits
returns-clause-splits g c =
    let b = c.in-Some-Tail.other in
    let n = c.in-Some-Tail.field-0-1 in
    let t = taken c.args.b.now c.take.new.self c.take.result (runs.Tail b n) (c.in-Some-Tail.is ∙ ap (λ r. Some r) c.in-Some-Tail.field-0-is) c.take.ensures.takes in
    splits_tails c.args.bits b c.args.count n c.args.b.now.values c.take.new.self.values t.0 t.2.3 c.requires.same c.requires.fits t.2.2 c.requires.some c.requires.few
