use Rattle.std.proofs.Common.{◌^◌, ◌<◌, Some, false, true, length, ap, ◌∙◌, arith}
use Rattle.wah_words.specs.declared.run.Run.TheVariants as runs
use Rattle.wah_logic.proofs.WalkLemmas.{taken, length-taken}
use Rattle.wah_logic.proofs.JoinLemmas.{joins_left, joins_fills, joins_fill_word, beq_same, fill_long, group_small}
use Rattle.wah_logic.proofs.turn.join_fill.Goals as goal

pub returns-then-on_bit-clause-joins : goal.returns-then-on_bit-clause-joins
returns-then-on_bit-clause-joins g c =
    let op = g.O.BitOp.op in
    let p = c.args.bit in
    let m = c.args.groups in
    let u = c.args.a.now.values in
    let y = c.args.b.now.values in
    let same = beq_same c.on_bit.result c.on_bit-2.result (op p false) (op p true) c.if-on_bit.true c.on_bit.ensures c.on_bit-2.ensures in
    rw (c.on_bit-then-on_bit.ensures, c.pass.ensures.values) (joins_left op p m u y same c.requires.some (fill_long p m u y c.requires.same) (omega (arith, c.requires.same)))

pub unreachable-requires : goal.unreachable-requires
unreachable-requires g c =
    let run = runs.Tail c.in-Some-Tail.field-0-0 c.in-Some-Tail.field-0-1 in
    let t = taken c.args.b.now c.take.new.self c.take.result run (c.in-Some-Tail.is ∙ ap (λ r. Some r) c.in-Some-Tail.field-0-is) c.take.ensures.takes in
    let l = length-taken c.args.b.now c.take.new.self run t in
    omega (arith, t.2.1, ap length t.2.3, c.requires.some, c.requires.same)

pub returns-in-Some-Fill-clause-joins : goal.returns-in-Some-Fill-clause-joins
returns-in-Some-Fill-clause-joins g c =
    let op = g.O.BitOp.op in
    let p = c.args.bit in
    let m = c.args.groups in
    let q = c.in-Some-Fill.other in
    let n = c.in-Some-Fill.most in
    let k = c.min-both.result in
    let u = c.args.a.now.values in
    let y = c.args.b.now.values in
    let t = taken c.args.b.now c.take.new.self c.take.result (runs.Fill q n) (c.in-Some-Fill.is ∙ ap (λ r. Some r) c.in-Some-Fill.field-0-is) c.take.ensures.takes in
    rw (c.on_bit-in-Some-Fill.ensures, c.put_back.ensures.values, c.put_back-in-Some-Fill.ensures.values) (joins_fills op p q m n k u y c.take.new.self.values t.0 (omega arith) (omega arith) (omega (arith, t.2, c.requires.some)) (fill_long p m u y c.requires.same))

pub returns-in-Some-Literal-clause-joins : goal.returns-in-Some-Literal-clause-joins
returns-in-Some-Literal-clause-joins g c =
    let op = g.O.BitOp.op in
    let p = c.args.bit in
    let m = c.args.groups in
    let w = c.in-Some-Literal.word in
    let u = c.args.a.now.values in
    let y = c.args.b.now.values in
    let t = taken c.args.b.now c.take.new.self c.take.result (runs.Literal w) (c.in-Some-Literal.is ∙ ap (λ r. Some r) c.in-Some-Literal.field-0-is) c.take.ensures.takes in
    let small : c.group_of.result < 2 ^ 31 = rw c.group_of.ensures (group_small p) in
    let law = c.on_word.ensures.places 31 small t.2 in
    let law' = rw c.group_of.ensures at law in
    rw c.put_back-in-Some-Literal.ensures.values (joins_fill_word op p m w c.on_word.result u y c.take.new.self.values t.0 c.requires.some law' (c.on_word.ensures.fits 31 small t.2) (fill_long p m u y c.requires.same))
