use Rattle.std.proofs.Common.{Some, [], ap, ◌∙◌, arith}
use Rattle.wah_words.specs.Places.{places}
use Rattle.wah_words.specs.declared.run.Run.TheVariants as runs
use Rattle.wah_logic.proofs.WalkLemmas.{taken, length-taken}
use Rattle.wah_logic.proofs.JoinLemmas.{joins_tails, tail_below, tail_same}
use Rattle.wah_logic.proofs.PutLemmas.{puts_run}
use Rattle.wah_logic.proofs.put.put_tail.Goals as goal

pub unreachable-requires-in-Some-Literal : goal.unreachable-requires-in-Some-Literal
unreachable-requires-in-Some-Literal g c =
    let run = runs.Literal c.in-Some-Literal.field-0-0 in
    let t = taken c.args.y.now c.take.new.self c.take.result run (c.in-Some-Literal.is ∙ ap (λ r. Some r) c.in-Some-Literal.field-0-is) c.take.ensures.takes in
    let l = length-taken c.args.y.now c.take.new.self run t in
    omega (arith, l, c.requires.few, c.requires.same)

pub push_tail-requires-clause-fits : goal.push_tail-requires-clause-fits
push_tail-requires-clause-fits g c =
    let b = c.in-Some-Tail.other in
    let n = c.in-Some-Tail.field-0-1 in
    let count = c.args.count in
    let t = taken c.args.y.now c.take.new.self c.take.result (runs.Tail b n) (c.in-Some-Tail.is ∙ ap (λ r. Some r) c.in-Some-Tail.field-0-is) c.take.ensures.takes in
    let e = tail_same b n count c.args.y.now.values c.take.new.self.values t.0 t.2.3 c.requires.same in
    c.on_word.ensures.fits count c.requires.fits (tail_below b n count t.2.2 e)

pub returns-clause-puts : goal.returns-clause-puts
returns-clause-puts g c =
    let op = g.O.BitOp.op in
    let a = c.args.bits in
    let b = c.in-Some-Tail.other in
    let n = c.in-Some-Tail.field-0-1 in
    let count = c.args.count in
    let y = c.args.y.now.values in
    let v = c.take.new.self.values in
    let t = taken c.args.y.now c.take.new.self c.take.result (runs.Tail b n) (c.in-Some-Tail.is ∙ ap (λ r. Some r) c.in-Some-Tail.field-0-is) c.take.ensures.takes in
    let joined = joins_tails op a b c.on_word.result count n y v t.0 t.2.3 c.requires.same (λ e. c.on_word.ensures.places count c.requires.fits (tail_below b n count t.2.2 e)) (λ e. c.on_word.ensures.fits count c.requires.fits (tail_below b n count t.2.2 e)) c.requires.some c.requires.few in
    rw c.push_tail.ensures.values (puts_run op (places count a) y c.args.out.now.values [] v (runs.Tail c.on_word.result count) joined c.requires.aligned)
