use Rattle.std.proofs.Common.{◌≡◌, ◌+◌, ◌-◌, ◌*◌, length, drop, Some, ap, ◌∙◌, arith}
use Rattle.wah_words.specs.declared.run.Run.TheVariants as runs
use Rattle.wah_words.specs.Left.{run_values}
use Rattle.wah_logic.proofs.WalkLemmas.{taken, length-taken, length-run_values, passed, passed_in}
use Rattle.wah_logic.proofs.side.Side.pass.Goals as goal

pub returns-then-most-ahead-clause-values : goal.returns-then-most-ahead-clause-values
returns-then-most-ahead-clause-values g c =
    let run = runs.Fill c.in-Fill.bit c.in-Fill.most in
    let t = taken c.loop-ahead.self c.take_group.new.self (Some c.take_group.result) run (ap (λ r. Some r) c.in-Fill.is) c.take_group.ensures.takes in
    c.put_back.ensures.values ∙ passed_in c.in-Fill.bit c.take_group.new.self.values c.loop-ahead.self.values (drop (31 * c.args.groups) c.args.self.now.values) c.in-Fill.most c.loop-ahead.ahead t.0 c.if-most-ahead.true c.loop-ahead.invariant.values

pub loop-ahead-preserved-in-Fill : goal.loop-ahead-preserved-in-Fill
loop-ahead-preserved-in-Fill g c =
    let run = runs.Fill c.in-Fill.bit c.in-Fill.most in
    let t = taken c.loop-ahead.self c.take_group.new.self (Some c.take_group.result) run (ap (λ r. Some r) c.in-Fill.is) c.take_group.ensures.takes in
    let l = length-taken c.loop-ahead.self c.take_group.new.self run t in
    let at : 31 * c.loop-ahead.ahead ≡ 31 * c.in-Fill.most + 31 * (c.loop-ahead.ahead - c.in-Fill.most) = omega arith in
    record {
      values = passed (run_values run) c.take_group.new.self.values c.loop-ahead.self.values (drop (31 * c.args.groups) c.args.self.now.values) (31 * c.loop-ahead.ahead) (31 * (c.loop-ahead.ahead - c.in-Fill.most)) (31 * c.in-Fill.most) t.0 (length-run_values run) at c.loop-ahead.invariant.values;
      enough = omega arith;
      looks = omega (arith, t.1);
      steps = omega arith;
    }

pub loop-ahead-preserved : goal.loop-ahead-preserved
loop-ahead-preserved g c =
    let run = runs.Literal c.in-Literal.field-0 in
    let t = taken c.loop-ahead.self c.take_group.new.self (Some c.take_group.result) run (ap (λ r. Some r) c.in-Literal.is) c.take_group.ensures.takes in
    let l = length-taken c.loop-ahead.self c.take_group.new.self run t in
    let at : 31 * c.loop-ahead.ahead ≡ 31 + 31 * (c.loop-ahead.ahead - 1) = omega arith in
    record {
      values = passed (run_values run) c.take_group.new.self.values c.loop-ahead.self.values (drop (31 * c.args.groups) c.args.self.now.values) (31 * c.loop-ahead.ahead) (31 * (c.loop-ahead.ahead - 1)) 31 t.0 (length-run_values run) at c.loop-ahead.invariant.values;
      enough = omega arith;
      looks = omega (arith, t.1);
      steps = omega arith;
    }

pub unreachable-requires : goal.unreachable-requires
unreachable-requires g c =
    let run = runs.Tail c.in-Tail.bits c.in-Tail.count in
    let t = taken c.loop-ahead.self c.take_group.new.self (Some c.take_group.result) run (ap (λ r. Some r) c.in-Tail.is) c.take_group.ensures.takes in
    let l = length-taken c.loop-ahead.self c.take_group.new.self run t in
    omega (arith, t.2.1, ap length t.2.3)
