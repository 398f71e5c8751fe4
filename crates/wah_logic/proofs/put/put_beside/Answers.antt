use Rattle.std.proofs.Common.{◌≡◌, ◌+◌, ◌-◌, ◌*◌, ◌≤◌, ◌^◌, ◌<◌, ◌++◌, Some, length, take, drop, replicate, ap, sym, ◌∙◌, arith, length-append}
use Rattle.std.proofs.lemmas.List.{length-replicate}
use Rattle.wah_words.specs.declared.run.Run.TheVariants as runs
use Rattle.wah_words.specs.Left.{run_values}
use Rattle.wah_words.specs.Places.{places}
use Rattle.wah_words.proofs.PlacesLemmas.{length-places}
use Rattle.wah_logic.specs.Logic.{each_place}
use Rattle.wah_logic.proofs.WalkLemmas.{taken, length-taken, length-run_values, passed, passed_in}
use Rattle.wah_logic.proofs.JoinLemmas.{group_small, each_replicate}
use Rattle.wah_logic.proofs.PutLemmas.{beside_grows, beside_ends, beside_none, group_beside}
use Rattle.wah_logic.proofs.put.put_beside.Goals as goal

pub returns-then-most-ahead-clause-values : goal.returns-then-most-ahead-clause-values
returns-then-most-ahead-clause-values g c =
    let op = g.O.BitOp.op in
    let p = c.args.bit in
    let q = c.in-Fill.other in
    let n = c.loop-ahead.ahead in
    let m = c.in-Fill.most in
    let y = c.loop-ahead.y.values in
    let v = c.take_group.new.self.values in
    let t = taken c.loop-ahead.y c.take_group.new.self (Some c.take_group.result) (runs.Fill q m) (ap (λ r. Some r) c.in-Fill.is) c.take_group.ensures.takes in
    let fits : 31 * n ≤ 31 * m = omega (arith, c.if-most-ahead.true) in
    let put = ap (λ b. replicate (31 * n) b) c.on_bit.ensures ∙ sym (beside_ends op p q y v (31 * n) (31 * m) t.0 fits) in
    c.push_fill.ensures.values ∙ ap (λ l. c.loop-ahead.out.values ++ l) put ∙ c.loop-ahead.invariant.values

pub returns-then-most-ahead-clause-left : goal.returns-then-most-ahead-clause-left
returns-then-most-ahead-clause-left g c =
    let q = c.in-Fill.other in
    let m = c.in-Fill.most in
    let y = c.loop-ahead.y.values in
    let v = c.take_group.new.self.values in
    let t = taken c.loop-ahead.y c.take_group.new.self (Some c.take_group.result) (runs.Fill q m) (ap (λ r. Some r) c.in-Fill.is) c.take_group.ensures.takes in
    c.put_back.ensures.values ∙ passed_in q v y (drop (31 * c.args.groups) c.args.y.now.values) m c.loop-ahead.ahead t.0 c.if-most-ahead.true c.loop-ahead.invariant.left

pub loop-ahead-preserved-in-Fill : goal.loop-ahead-preserved-in-Fill
loop-ahead-preserved-in-Fill g c =
    let op = g.O.BitOp.op in
    let i = c.loop-ahead.invariant in
    let p = c.args.bit in
    let q = c.in-Fill.other in
    let n = c.loop-ahead.ahead in
    let m = c.in-Fill.most in
    let out = c.loop-ahead.out.values in
    let y = c.loop-ahead.y.values in
    let v = c.take_group.new.self.values in
    let run = runs.Fill q m in
    let all = c.args.out.now.values ++ each_place op (replicate (31 * c.args.groups) p) (take (31 * c.args.groups) c.args.y.now.values) in
    let t = taken c.loop-ahead.y c.take_group.new.self (Some c.take_group.result) run (ap (λ r. Some r) c.in-Fill.is) c.take_group.ensures.takes in
    let l = length-taken c.loop-ahead.y c.take_group.new.self run t in
    let at : 31 * n ≡ 31 * m + 31 * (n - m) = omega arith in
    let put = ap (λ b. replicate (31 * m) b) c.on_bit-in-Fill.ensures ∙ sym (each_replicate op (31 * m) p q) in
    let grown = ap length c.push_fill-in-Fill.ensures.values ∙ length-append out (replicate (31 * m) c.on_bit-in-Fill.result) ∙ ap (λ k. length out + k) (length-replicate (31 * m) c.on_bit-in-Fill.result) in
    record {
      values = rw c.push_fill-in-Fill.ensures.values (beside_grows op p out (replicate (31 * m) c.on_bit-in-Fill.result) all (run_values run) y v (31 * n) (31 * m) (31 * (n - m)) i.values t.0 (length-run_values run) at put);
      left = passed (run_values run) v y (drop (31 * c.args.groups) c.args.y.now.values) (31 * n) (31 * (n - m)) (31 * m) t.0 (length-run_values run) at i.left;
      enough = omega (arith, l, i.enough);
      aligned = omega (arith, grown, i.aligned);
      limit = omega (arith, grown, i.limit);
      words = omega (arith, t.1, i.words, c.push_fill-in-Fill.ensures.words);
      spare = omega (arith, t.1, i.spare, c.push_fill-in-Fill.ensures.spare);
      fewer = omega (arith, t.1, i.fewer);
      steps = omega (arith, i.steps, c.take_group.ensures.steps);
    }

pub push_literal-requires-clause-group : goal.push_literal-requires-clause-group
push_literal-requires-clause-group g c =
    let run = runs.Literal c.in-Literal.word in
    let t = taken c.loop-ahead.y c.take_group.new.self (Some c.take_group.result) run (ap (λ r. Some r) c.in-Literal.is) c.take_group.ensures.takes in
    let small : c.group_of.result < 2 ^ 31 = rw c.group_of.ensures (group_small c.args.bit) in
    c.on_word.ensures.fits 31 small t.2

pub loop-ahead-preserved : goal.loop-ahead-preserved
loop-ahead-preserved g c =
    let op = g.O.BitOp.op in
    let i = c.loop-ahead.invariant in
    let p = c.args.bit in
    let w = c.in-Literal.word in
    let r = c.on_word.result in
    let n = c.loop-ahead.ahead in
    let out = c.loop-ahead.out.values in
    let y = c.loop-ahead.y.values in
    let v = c.take_group.new.self.values in
    let run = runs.Literal w in
    let all = c.args.out.now.values ++ each_place op (replicate (31 * c.args.groups) p) (take (31 * c.args.groups) c.args.y.now.values) in
    let t = taken c.loop-ahead.y c.take_group.new.self (Some c.take_group.result) run (ap (λ r. Some r) c.in-Literal.is) c.take_group.ensures.takes in
    let l = length-taken c.loop-ahead.y c.take_group.new.self run t in
    let at : 31 * n ≡ 31 + 31 * (n - 1) = omega arith in
    let small : c.group_of.result < 2 ^ 31 = rw c.group_of.ensures (group_small p) in
    let law = c.on_word.ensures.places 31 small t.2 in
    let law' = rw c.group_of.ensures at law in
    let put = group_beside op p w r law' in
    let grown = ap length c.push_literal.ensures.values ∙ length-append out (places 31 r) ∙ ap (λ k. length out + k) (length-places 31 r) in
    record {
      values = rw c.push_literal.ensures.values (beside_grows op p out (places 31 r) all (run_values run) y v (31 * n) 31 (31 * (n - 1)) i.values t.0 (length-run_values run) at put);
      left = passed (run_values run) v y (drop (31 * c.args.groups) c.args.y.now.values) (31 * n) (31 * (n - 1)) 31 t.0 (length-run_values run) at i.left;
      enough = omega (arith, l, i.enough);
      aligned = omega (arith, grown, i.aligned);
      limit = omega (arith, grown, i.limit);
      words = omega (arith, t.1, i.words, c.push_literal.ensures.words);
      spare = omega (arith, t.1, i.spare, c.push_literal.ensures.spare);
      fewer = omega (arith, t.1, i.fewer);
      steps = omega (arith, i.steps, c.take_group.ensures.steps);
    }

pub unreachable-requires : goal.unreachable-requires
unreachable-requires g c =
    let run = runs.Tail c.in-Tail.bits c.in-Tail.count in
    let t = taken c.loop-ahead.y c.take_group.new.self (Some c.take_group.result) run (ap (λ r. Some r) c.in-Tail.is) c.take_group.ensures.takes in
    let l = length-taken c.loop-ahead.y c.take_group.new.self run t in
    omega (arith, l, t.2.1, ap length t.2.3, c.loop-ahead.invariant.enough, c.loop-ahead-test.true)

pub returns-clause-values : goal.returns-clause-values
returns-clause-values g c =
    let none : c.loop-ahead.ahead ≡ 0 = omega (arith, c.loop-ahead-test.false) in
    beside_none g.O.BitOp.op c.args.bit c.loop-ahead.out.values c.loop-ahead.y.values c.loop-ahead.ahead none ∙ c.loop-ahead.invariant.values
