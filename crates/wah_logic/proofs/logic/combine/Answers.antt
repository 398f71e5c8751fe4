use Rattle.std.proofs.Common.{refl, ◌∙◌, arith}
use Rattle.wah_words.proofs.SpellingLemmas.{words_of-nil}
use Rattle.wah_logic.proofs.WalkLemmas.{taken, at_end, length-taken}
use Rattle.wah_logic.proofs.LogicLemmas.{some_values, out_ends, before_run}
use Rattle.wah_logic.proofs.logic.combine.Goals as goal

pub loop-run-init : goal.loop-run-init
loop-run-init g c = record {
  values = rw (c.requires.empty, c.over-x.ensures.values, c.over-y.ensures.values) refl;
  same = rw (c.over-x.ensures.values, c.over-y.ensures.values) c.requires.same;
  aligned = λ some. rw c.requires.empty refl;
  room = omega (arith, c.requires.room);
  words = rw (c.requires.empty, words_of-nil) (omega arith);
  steps = omega arith;
}

pub put_run-requires-clause-aligned : goal.put_run-requires-clause-aligned
put_run-requires-clause-aligned g c =
    let i = c.loop-run.invariant in
    let run = c.in-Some.run' in
    let t = taken c.loop-run.x c.take.new.self c.take.result run c.in-Some.is c.take.ensures.takes in
    let l = length-taken c.loop-run.x c.take.new.self run t in
    i.aligned (omega (arith, l, some_values run c.take.new.self.values t.2))

pub put_run-requires-clause-limit : goal.put_run-requires-clause-limit
put_run-requires-clause-limit g c =
    let i = c.loop-run.invariant in
    let all = before_run g.O.BitOp.op c.loop-run.out.values c.loop-run.x.values c.loop-run.y.values c.args.a.now c.args.b.now i.values i.same c.requires.same in
    omega (arith, all, i.same, c.over-x.ensures.limit)

pub returns-clause-values : goal.returns-clause-values
returns-clause-values g c =
    let i = c.loop-run.invariant in
    let none = at_end c.loop-run.x c.take.new.self c.take.result c.in_default.is c.take.ensures.takes in
    c.finish.ensures ∙ out_ends g.O.BitOp.op c.loop-run.out.values c.loop-run.x.values c.loop-run.y.values c.args.a.now c.args.b.now none i.values
