use Rattle.std.proofs.Common.{Some, length, ap, ◌∙◌, arith}
use Rattle.wah_words.specs.declared.run.Run.TheVariants as runs
use Rattle.wah_logic.proofs.WalkLemmas.{taken, length-taken}
use Rattle.wah_logic.proofs.JoinLemmas.{group_small}
use Rattle.wah_logic.proofs.PairLemmas.{splits_fills, splits_fill_word}
use Rattle.wah_logic.proofs.lockstep.pair_fill.Goals as goal

pub unreachable-requires : goal.unreachable-requires
unreachable-requires g c =
    let run = runs.Tail c.in-Some-Tail.field-0-0 c.in-Some-Tail.field-0-1 in
    let t = taken c.args.b.now c.take.new.self c.take.result run (c.in-Some-Tail.is ∙ ap (λ r. Some r) c.in-Some-Tail.field-0-is) c.take.ensures.takes in
    let l = length-taken c.args.b.now c.take.new.self run t in
    omega (arith, t.2.1, ap length t.2.3, c.requires.some, c.requires.same)

pub returns-in-Some-Fill-clause-splits : goal.returns-in-Some-Fill-clause-splits
returns-in-Some-Fill-clause-splits g c =
    let p = c.args.bit in
    let m = c.args.groups in
    let q = c.in-Some-Fill.other in
    let n = c.in-Some-Fill.most in
    let k = c.min-both.result in
    let u = c.args.a.now.values in
    let y = c.args.b.now.values in
    let t = taken c.args.b.now c.take.new.self c.take.result (runs.Fill q n) (c.in-Some-Fill.is ∙ ap (λ r. Some r) c.in-Some-Fill.field-0-is) c.take.ensures.takes in
    rw (c.put_back.ensures.values, c.put_back-in-Some-Fill.ensures.values) (splits_fills p q m n k u y c.take.new.self.values t.0 (omega arith) (omega arith) (omega (arith, t.2, c.requires.some)) c.requires.same)

pub returns-in-Some-Literal-clause-splits : goal.returns-in-Some-Literal-clause-splits
returns-in-Some-Literal-clause-splits g c =
    let p = c.args.bit in
    let m = c.args.groups in
    let w = c.in-Some-Literal.word in
    let u = c.args.a.now.values in
    let y = c.args.b.now.values in
    let t = taken c.args.b.now c.take.new.self c.take.result (runs.Literal w) (c.in-Some-Literal.is ∙ ap (λ r. Some r) c.in-Some-Literal.field-0-is) c.take.ensures.takes in
    rw (c.put_back-in-Some-Literal.ensures.values, c.group_of.ensures) (splits_fill_word p m w u y c.take.new.self.values t.0 c.requires.some (group_small p) t.2 c.requires.same)
