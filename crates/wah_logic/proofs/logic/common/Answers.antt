use Rattle.std.proofs.Common.{ap, ◌∙◌, arith}
use Rattle.std.proofs.lemmas.List.Sums.{count_by-le-length}
use Rattle.wah_words.specs.Left.{run_values}
use Rattle.wah_logic.specs.Logic.{each_place, and, ones}
use Rattle.wah_logic.proofs.WalkLemmas.{length-run_values}
use Rattle.wah_logic.proofs.JoinLemmas.{length-each}
use Rattle.wah_logic.proofs.OnesLemmas.{ones-append}
use Rattle.wah_logic.proofs.LogicLemmas.{turned, ended, length-joins, each_nil}
use Rattle.wah_logic.proofs.logic.common.Goals as goal

pub loop-run-init : goal.loop-run-init
loop-run-init g c = record {
  ones = rw (c.over-x.ensures.values, c.over-y.ensures.values) (omega arith);
  within = rw c.over-x.ensures.values c.over-x.ensures.limit;
  same = rw (c.over-x.ensures.values, c.over-y.ensures.values) c.requires.same;
  steps = omega arith;
}

pub ones_of-count-requires-clause-limit : goal.ones_of-count-requires-clause-limit
ones_of-count-requires-clause-limit g c =
    let i = c.loop-run.invariant in
    let run = c.in-Some.run' in
    let t = turned and c.loop-run.x c.loop-run.y c.next_run.new.a c.next_run.new.b c.next_run.result run c.in-Some.is c.next_run.ensures.turns in
    let l = length-joins and c.loop-run.x.values c.loop-run.y.values c.next_run.new.a.values c.next_run.new.b.values run i.same t.0 in
    omega (arith, l, i.within, length-run_values run)

pub overflow_add-count : goal.overflow_add-count
overflow_add-count g c =
    let i = c.loop-run.invariant in
    let run = c.in-Some.run' in
    let t = turned and c.loop-run.x c.loop-run.y c.next_run.new.a c.next_run.new.b c.next_run.result run c.in-Some.is c.next_run.ensures.turns in
    let rest = each_place and c.next_run.new.a.values c.next_run.new.b.values in
    let parts = ap ones t.0.values ∙ ones-append (run_values run) rest in
    let all = each_place and c.args.a.now c.args.b.now in
    let most = count_by-le-length (λ b. b) all in
    omega (arith, i.ones, parts, most, length-each and c.args.a.now c.args.b.now c.requires.same, c.over-x.ensures.limit, c.ones_of-count.ensures)

pub loop-run-preserved : goal.loop-run-preserved
loop-run-preserved g c =
    let i = c.loop-run.invariant in
    let run = c.in-Some.run' in
    let t = turned and c.loop-run.x c.loop-run.y c.next_run.new.a c.next_run.new.b c.next_run.result run c.in-Some.is c.next_run.ensures.turns in
    let l = length-joins and c.loop-run.x.values c.loop-run.y.values c.next_run.new.a.values c.next_run.new.b.values run i.same t.0 in
    let rest = each_place and c.next_run.new.a.values c.next_run.new.b.values in
    let parts = ap ones t.0.values ∙ ones-append (run_values run) rest in
    record {
      ones = omega (arith, i.ones, parts, c.ones_of-count.ensures);
      within = omega (arith, l, i.within);
      same = t.0.same;
      steps = omega (arith, i.steps, c.next_run.ensures.steps);
    }

pub returns-clause-ones : goal.returns-clause-ones
returns-clause-ones g c =
    let i = c.loop-run.invariant in
    let t = ended and c.loop-run.x c.loop-run.y c.next_run.new.a c.next_run.new.b c.next_run.result c.in_default.is c.next_run.ensures.turns in
    let none = ap ones (each_nil and c.loop-run.x.values c.loop-run.y.values t.0) in
    c.from.ensures ∙ omega (arith, i.ones, none)
