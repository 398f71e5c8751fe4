use Rattle.std.proofs.Common.{◌≡◌, ◌%◌, not, length, length-append, refl, ap, ◌∙◌, arith}
use Rattle.std.proofs.lemmas.List.{length-map}
use Rattle.wah_words.specs.Left.{run_values}
use Rattle.wah_words.proofs.SpellingLemmas.{words_of-nil}
use Rattle.wah_logic.proofs.WalkLemmas.{taken, length-taken, length-run_values}
use Rattle.wah_logic.proofs.LogicLemmas.{aligned_after, some_values}
use Rattle.wah_logic.proofs.NotLemmas.{not_before, not_grows}
use Rattle.wah_logic.proofs.logic.complement.Goals as goal

pub loop-run-init : goal.loop-run-init
loop-run-init g c = record {
  values = rw (c.in_ok-out.ensures.empty, c.over-x.ensures.values) refl;
  aligned = λ some. rw c.in_ok-out.ensures.empty refl;
  room = omega (arith, c.in_ok-out.ensures.room);
  words = rw (c.in_ok-out.ensures.empty, words_of-nil) (omega arith);
  steps = omega arith;
}

pub push_run-requires-clause-aligned : goal.push_run-requires-clause-aligned
push_run-requires-clause-aligned g c =
    let i = c.loop-run.invariant in
    let run = c.in-Some.run' in
    let t = taken c.loop-run.x c.take.new.self c.take.result run c.in-Some.is c.take.ensures.takes in
    let l = length-taken c.loop-run.x c.take.new.self run t in
    i.aligned (omega (arith, l, some_values run c.take.new.self.values t.2))

pub push_run-requires-clause-limit : goal.push_run-requires-clause-limit
push_run-requires-clause-limit g c =
    let i = c.loop-run.invariant in
    let run = c.in-Some.run' in
    let t = taken c.loop-run.x c.take.new.self c.take.result run c.in-Some.is c.take.ensures.takes in
    let l = length-taken c.loop-run.x c.take.new.self run t in
    let all = not_before c.loop-run.out.values c.loop-run.x.values c.args.a.now i.values in
    let same = ap length c.turned_run.ensures.values ∙ length-map (run_values run) not ∙ length-run_values run in
    omega (arith, l, all, same, c.over-x.ensures.limit)

pub loop-run-preserved : goal.loop-run-preserved
loop-run-preserved g c =
    let i = c.loop-run.invariant in
    let run = c.in-Some.run' in
    let t = taken c.loop-run.x c.take.new.self c.take.result run c.in-Some.is c.take.ensures.takes in
    let l = length-taken c.loop-run.x c.take.new.self run t in
    let was : length c.loop-run.out.values % 31 ≡ 0 = i.aligned (omega (arith, l, some_values run c.take.new.self.values t.2)) in
    let same = ap length c.turned_run.ensures.values ∙ length-map (run_values run) not ∙ length-run_values run in
    record {
      values = rw (c.push_run.ensures.values, c.turned_run.ensures.values) (not_grows c.loop-run.out.values c.loop-run.x.values (run_values run) c.take.new.self.values c.args.a.now i.values t.0);
      aligned = λ some. rw (c.push_run.ensures.values, length-append c.loop-run.out.values (run_values c.turned_run.result), same) (aligned_after run c.take.new.self.values (length c.loop-run.out.values) t.2 was some);
      room = omega (arith, t.1, i.room, c.push_run.ensures.spare);
      words = omega (arith, t.1, i.words, c.push_run.ensures.words);
      steps = omega (arith, i.steps, c.take.ensures.steps);
    }
