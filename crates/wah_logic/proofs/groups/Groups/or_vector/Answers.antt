use Rattle.std.proofs.Common.{Some, None, subst, arith}
use Rattle.wah_words.specs.Left.{Comes}
use Rattle.wah_logic.proofs.GroupLemmas.{gathers_stands, gathers_run, gathers_end, part_of}
use Rattle.wah_logic.proofs.groups.Groups.or_vector.Goals as goal

pub or_run-group-requires-clause-stands : goal.or_run-group-requires-clause-stands
or_run-group-requires-clause-stands g c =
    let run = c.in-Some.run' in
    let t : Comes c.loop-run.cursor (Some run) c.advance.new.self = subst (λ x. Comes c.loop-run.cursor x c.advance.new.self) c.in-Some.is c.advance.ensures.comes in
    gathers_stands c.args.self.now c.args.vector.now c.loop-run.self c.loop-run.cursor.values c.advance.new.self.values c.loop-run.group run c.loop-run.invariant.gathers t.0 (part_of run c.advance.new.self t.2)

pub loop-run-preserved : goal.loop-run-preserved
loop-run-preserved g c =
    let run = c.in-Some.run' in
    let t : Comes c.loop-run.cursor (Some run) c.advance.new.self = subst (λ x. Comes c.loop-run.cursor x c.advance.new.self) c.in-Some.is c.advance.ensures.comes in
    record {
      gathers = rw c.or_run-group.ensures.after (gathers_run c.args.self.now c.args.vector.now c.loop-run.self c.loop-run.cursor.values c.advance.new.self.values c.or_run-group.new.self c.loop-run.group run c.loop-run.invariant.gathers t.0 (part_of run c.advance.new.self t.2) c.or_run-group.ensures.values);
      steps = omega (arith, c.in-Some.ensures.steps, t.1, c.loop-run.invariant.steps);
    }

pub returns-clause-values : goal.returns-clause-values
returns-clause-values g c =
    let t : Comes c.loop-run.cursor None c.advance.new.self = subst (λ x. Comes c.loop-run.cursor x c.advance.new.self) c.in_default.is c.advance.ensures.comes in
    gathers_end c.args.self.now c.args.vector.now c.loop-run.self c.loop-run.cursor.values c.loop-run.group c.loop-run.invariant.gathers t.0
