use Rattle.std.proofs.Common.{◌^◌, ◌<◌, Some, false, true, length, ap, ◌∙◌, arith}
use Rattle.wah_words.specs.declared.run.Run.TheVariants as runs
use Rattle.wah_logic.proofs.WalkLemmas.{taken, length-taken}
use Rattle.wah_logic.proofs.JoinLemmas.{joins_right, joins_word_fill, joins_words, beq_same, word_long, group_small}
use Rattle.wah_logic.proofs.turn.join_literal.Goals as goal

pub returns-then-on_bit-clause-joins : goal.returns-then-on_bit-clause-joins
returns-then-on_bit-clause-joins g c =
    let op = g.O.BitOp.op in
    let w = c.args.word in
    let q = c.in-Some-Fill.bit in
    let n = c.in-Some-Fill.groups in
    let u = c.args.a.now.values in
    let y = c.args.b.now.values in
    let run = runs.Fill q n in
    let t = taken c.args.b.now c.take.new.self c.take.result run (c.in-Some-Fill.is ∙ ap (λ r. Some r) c.in-Some-Fill.field-0-is) c.take.ensures.takes in
    let l = length-taken c.args.b.now c.take.new.self run t in
    let same = beq_same c.on_bit.result c.on_bit-in-Some-Fill.result (op false q) (op true q) c.if-on_bit.true c.on_bit.ensures c.on_bit-in-Some-Fill.ensures in
    rw (c.on_bit-then-on_bit.ensures, c.pass.ensures.values) (joins_right op q n w u y c.take.new.self.values same t.0 t.2 (word_long w u y c.requires.same) (omega (arith, l, t.2, c.requires.same)))

pub unreachable-requires : goal.unreachable-requires
unreachable-requires g c =
    let run = runs.Tail c.in-Some-Tail.field-0-0 c.in-Some-Tail.field-0-1 in
    let t = taken c.args.b.now c.take.new.self c.take.result run (c.in-Some-Tail.is ∙ ap (λ r. Some r) c.in-Some-Tail.field-0-is) c.take.ensures.takes in
    let l = length-taken c.args.b.now c.take.new.self run t in
    omega (arith, t.2.1, ap length t.2.3, c.requires.same)

pub returns-else-on_bit-clause-joins : goal.returns-else-on_bit-clause-joins
returns-else-on_bit-clause-joins g c =
    let op = g.O.BitOp.op in
    let w = c.args.word in
    let q = c.in-Some-Fill.bit in
    let n = c.in-Some-Fill.groups in
    let u = c.args.a.now.values in
    let y = c.args.b.now.values in
    let t = taken c.args.b.now c.take.new.self c.take.result (runs.Fill q n) (c.in-Some-Fill.is ∙ ap (λ r. Some r) c.in-Some-Fill.field-0-is) c.take.ensures.takes in
    let small : c.group_of.result < 2 ^ 31 = rw c.group_of.ensures (group_small q) in
    let law = c.on_word.ensures.places 31 c.requires.group small in
    let law' = rw c.group_of.ensures at law in
    rw c.put_back.ensures.values (joins_word_fill op q n w c.on_word.result u y c.take.new.self.values t.0 t.2 law' (c.on_word.ensures.fits 31 c.requires.group small) (word_long w u y c.requires.same))

pub returns-in-Some-Literal-clause-joins : goal.returns-in-Some-Literal-clause-joins
returns-in-Some-Literal-clause-joins g c =
    let op = g.O.BitOp.op in
    let w = c.args.word in
    let z = c.in-Some-Literal.other in
    let u = c.args.a.now.values in
    let y = c.args.b.now.values in
    let t = taken c.args.b.now c.take.new.self c.take.result (runs.Literal z) (c.in-Some-Literal.is ∙ ap (λ r. Some r) c.in-Some-Literal.field-0-is) c.take.ensures.takes in
    joins_words op w z c.on_word-in-Some-Literal.result u y c.take.new.self.values t.0 (c.on_word-in-Some-Literal.ensures.places 31 c.requires.group t.2) (c.on_word-in-Some-Literal.ensures.fits 31 c.requires.group t.2) (word_long w u y c.requires.same)
