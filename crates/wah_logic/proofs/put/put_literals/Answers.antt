use Rattle.std.proofs.Common.{◌+◌, ◌^◌, ◌<◌, ◌++◌, Some, [], length, ap, subst, ◌∙◌, arith, length-append}
use Rattle.std.proofs.lemmas.List.{append-nil}
use Rattle.wah_words.specs.declared.run.Run.TheVariants as runs
use Rattle.wah_words.specs.Places.{places}
use Rattle.wah_words.proofs.PlacesLemmas.{length-places}
use Rattle.wah_logic.specs.Rest.{Puts}
use Rattle.wah_logic.proofs.WalkLemmas.{taken, none_taken, length-taken}
use Rattle.wah_logic.proofs.JoinLemmas.{group_small}
use Rattle.wah_logic.proofs.PutLemmas.{puts_words, puts_word_fill, puts_both, puts_none}
use Rattle.wah_logic.proofs.put.put_literals.Goals as goal

pub loop-other-init : goal.loop-other-init
loop-other-init g c =
    let w = c.args.word in
    record {
      puts = puts_none g.O.BitOp.op (places 31 w ++ c.args.x.now.values) c.args.y.now.values c.args.out.now.values (omega (arith, length-append (places 31 w) c.args.x.now.values, length-places 31 w, c.requires.same)) c.requires.aligned;
      group = c.requires.group;
      same = c.requires.same;
      aligned = c.requires.aligned;
      limit = c.requires.limit;
      words = omega arith;
      spare = omega arith;
      fewer = omega arith;
      steps = omega arith;
    }

pub push_literal-requires-clause-group : goal.push_literal-requires-clause-group
push_literal-requires-clause-group g c =
    let t = taken c.loop-other.y c.take_group.new.self (Some c.take_group.result) (runs.Literal c.in-Literal.other) (ap (λ r. Some r) c.in-Literal.is) c.take_group.ensures.takes in
    c.on_word.ensures.fits 31 c.loop-other.invariant.group t.2

pub loop-other-preserved : goal.loop-other-preserved
loop-other-preserved g c =
    let op = g.O.BitOp.op in
    let i = c.loop-other.invariant in
    let w = c.loop-other.word in
    let z = c.in-Literal.other in
    let r = c.on_word.result in
    let u = c.loop-other.x.values in
    let y = c.loop-other.y.values in
    let v = c.take_group.new.self.values in
    let out = c.loop-other.out.values in
    let x₀ = places 31 c.args.word ++ c.args.x.now.values in
    let t = taken c.loop-other.y c.take_group.new.self (Some c.take_group.result) (runs.Literal z) (ap (λ r. Some r) c.in-Literal.is) c.take_group.ensures.takes in
    let l = length-taken c.loop-other.y c.take_group.new.self (runs.Literal z) t in
    let s = taken c.loop-other.x c.take.new.self c.take.result (runs.Literal c.in-Some-Literal.next) (c.in-Some-Literal.is ∙ ap (λ r. Some r) c.in-Some-Literal.field-0-is) c.take.ensures.takes in
    let k = length-taken c.loop-other.x c.take.new.self (runs.Literal c.in-Some-Literal.next) s in
    let puts = puts_words op x₀ c.args.y.now.values c.args.out.now.values w z r u y v out i.puts t.0 (c.on_word.ensures.places 31 i.group t.2) (c.on_word.ensures.fits 31 i.group t.2) i.same i.aligned in
    let grown = ap length c.push_literal.ensures.values ∙ length-append out (places 31 r) ∙ ap (λ n. length out + n) (length-places 31 r) in
    record {
      puts = rw c.push_literal.ensures.values (subst (λ l. Puts op x₀ c.args.y.now.values c.args.out.now.values l v (out ++ places 31 r)) s.0 puts);
      group = s.2;
      same = omega (arith, l, k, i.same);
      aligned = omega (arith, grown, i.aligned);
      limit = omega (arith, grown, l, i.limit);
      words = omega (arith, t.1, s.1, i.words, c.push_literal.ensures.words);
      spare = omega (arith, t.1, s.1, i.spare, c.push_literal.ensures.spare);
      fewer = omega (arith, t.1, s.1, i.fewer);
      steps = omega (arith, i.steps, c.take_group.ensures.steps, c.take.ensures.steps);
    }

pub returns-in-Some-Fill-clause-puts : goal.returns-in-Some-Fill-clause-puts
returns-in-Some-Fill-clause-puts g c =
    let op = g.O.BitOp.op in
    let i = c.loop-other.invariant in
    let w = c.loop-other.word in
    let z = c.in-Literal.other in
    let r = c.on_word.result in
    let u = c.loop-other.x.values in
    let y = c.loop-other.y.values in
    let v = c.take_group.new.self.values in
    let out = c.loop-other.out.values in
    let x₀ = places 31 c.args.word ++ c.args.x.now.values in
    let t = taken c.loop-other.y c.take_group.new.self (Some c.take_group.result) (runs.Literal z) (ap (λ r. Some r) c.in-Literal.is) c.take_group.ensures.takes in
    let s = taken c.loop-other.x c.take.new.self c.take.result (runs.Fill c.in-Some-Fill.bit c.in-Some-Fill.groups) (c.in-Some-Fill.is ∙ ap (λ r. Some r) c.in-Some-Fill.field-0-is) c.take.ensures.takes in
    let puts = puts_words op x₀ c.args.y.now.values c.args.out.now.values w z r u y v out i.puts t.0 (c.on_word.ensures.places 31 i.group t.2) (c.on_word.ensures.fits 31 i.group t.2) i.same i.aligned in
    rw (c.push_literal.ensures.values, c.put_back.ensures.values) (subst (λ l. Puts op x₀ c.args.y.now.values c.args.out.now.values l v (out ++ places 31 r)) s.0 puts)

pub put_tail-requires-clause-same : goal.put_tail-requires-clause-same
put_tail-requires-clause-same g c =
    let t = taken c.loop-other.y c.take_group.new.self (Some c.take_group.result) (runs.Literal c.in-Literal.other) (ap (λ r. Some r) c.in-Literal.is) c.take_group.ensures.takes in
    let l = length-taken c.loop-other.y c.take_group.new.self (runs.Literal c.in-Literal.other) t in
    let run = runs.Tail c.in-Some-Tail.bits c.in-Some-Tail.count in
    let s = taken c.loop-other.x c.take.new.self c.take.result run (c.in-Some-Tail.is ∙ ap (λ r. Some r) c.in-Some-Tail.field-0-is) c.take.ensures.takes in
    let k = length-taken c.loop-other.x c.take.new.self run s in
    omega (arith, l, k, ap length s.2.3, c.loop-other.invariant.same)

pub put_tail-requires-clause-aligned : goal.put_tail-requires-clause-aligned
put_tail-requires-clause-aligned g c =
    let r = c.on_word.result in
    omega (arith, ap length c.push_literal.ensures.values, length-append c.loop-other.out.values (places 31 r), length-places 31 r, c.loop-other.invariant.aligned)

pub put_tail-requires-clause-limit : goal.put_tail-requires-clause-limit
put_tail-requires-clause-limit g c =
    let r = c.on_word.result in
    let run = runs.Tail c.in-Some-Tail.bits c.in-Some-Tail.count in
    let s = taken c.loop-other.x c.take.new.self c.take.result run (c.in-Some-Tail.is ∙ ap (λ r. Some r) c.in-Some-Tail.field-0-is) c.take.ensures.takes in
    let k = length-taken c.loop-other.x c.take.new.self run s in
    omega (arith, k, ap length c.push_literal.ensures.values, length-append c.loop-other.out.values (places 31 r), length-places 31 r, c.loop-other.invariant.same, c.loop-other.invariant.limit)

pub returns-in-Some-Tail-clause-puts : goal.returns-in-Some-Tail-clause-puts
returns-in-Some-Tail-clause-puts g c =
    let op = g.O.BitOp.op in
    let i = c.loop-other.invariant in
    let w = c.loop-other.word in
    let z = c.in-Literal.other in
    let r = c.on_word.result in
    let u = c.loop-other.x.values in
    let y = c.loop-other.y.values in
    let v = c.take_group.new.self.values in
    let out = c.loop-other.out.values in
    let x₀ = places 31 c.args.word ++ c.args.x.now.values in
    let tail = places c.in-Some-Tail.count c.in-Some-Tail.bits in
    let t = taken c.loop-other.y c.take_group.new.self (Some c.take_group.result) (runs.Literal z) (ap (λ r. Some r) c.in-Literal.is) c.take_group.ensures.takes in
    let s = taken c.loop-other.x c.take.new.self c.take.result (runs.Tail c.in-Some-Tail.bits c.in-Some-Tail.count) (c.in-Some-Tail.is ∙ ap (λ r. Some r) c.in-Some-Tail.field-0-is) c.take.ensures.takes in
    let puts = puts_words op x₀ c.args.y.now.values c.args.out.now.values w z r u y v out i.puts t.0 (c.on_word.ensures.places 31 i.group t.2) (c.on_word.ensures.fits 31 i.group t.2) i.same i.aligned in
    let whole = s.0 ∙ ap (λ l. tail ++ l) s.2.3 ∙ append-nil tail in
    let here : Puts op x₀ c.args.y.now.values c.args.out.now.values tail v (out ++ places 31 r) = subst (λ l. Puts op x₀ c.args.y.now.values c.args.out.now.values l v (out ++ places 31 r)) whole puts in
    let now : Puts op x₀ c.args.y.now.values c.args.out.now.values tail v c.push_literal.new.self.values = rw c.push_literal.ensures.values here in
    rw s.2.3 (puts_both op x₀ c.args.y.now.values c.args.out.now.values tail v c.push_literal.new.self.values [] c.put_tail.new.y.values c.put_tail.new.out.values now c.put_tail.ensures.puts)

pub returns-in-None-clause-puts : goal.returns-in-None-clause-puts
returns-in-None-clause-puts g c =
    let op = g.O.BitOp.op in
    let i = c.loop-other.invariant in
    let w = c.loop-other.word in
    let z = c.in-Literal.other in
    let r = c.on_word.result in
    let u = c.loop-other.x.values in
    let y = c.loop-other.y.values in
    let v = c.take_group.new.self.values in
    let out = c.loop-other.out.values in
    let x₀ = places 31 c.args.word ++ c.args.x.now.values in
    let t = taken c.loop-other.y c.take_group.new.self (Some c.take_group.result) (runs.Literal z) (ap (λ r. Some r) c.in-Literal.is) c.take_group.ensures.takes in
    let puts = puts_words op x₀ c.args.y.now.values c.args.out.now.values w z r u y v out i.puts t.0 (c.on_word.ensures.places 31 i.group t.2) (c.on_word.ensures.fits 31 i.group t.2) i.same i.aligned in
    let same = none_taken c.loop-other.x c.take.new.self c.take.result c.in-None.is c.take.ensures.takes in
    rw (c.push_literal.ensures.values, same) puts

pub push_literal-requires-in-Fill-clause-group : goal.push_literal-requires-in-Fill-clause-group
push_literal-requires-in-Fill-clause-group g c =
    let small : c.group_of.result < 2 ^ 31 = rw c.group_of.ensures (group_small c.in-Fill.bit) in
    c.on_word-in-Fill.ensures.fits 31 c.loop-other.invariant.group small

pub put_fill-requires-clause-aligned : goal.put_fill-requires-clause-aligned
put_fill-requires-clause-aligned g c =
    let r = c.on_word-in-Fill.result in
    omega (arith, ap length c.push_literal-in-Fill.ensures.values, length-append c.loop-other.out.values (places 31 r), length-places 31 r, c.loop-other.invariant.aligned)

pub put_fill-requires-clause-limit : goal.put_fill-requires-clause-limit
put_fill-requires-clause-limit g c =
    let r = c.on_word-in-Fill.result in
    let run = runs.Fill c.in-Fill.bit c.in-Fill.groups in
    let t = taken c.loop-other.y c.take_group.new.self (Some c.take_group.result) run (ap (λ r. Some r) c.in-Fill.is) c.take_group.ensures.takes in
    let l = length-taken c.loop-other.y c.take_group.new.self run t in
    omega (arith, l, t.2, ap length c.push_literal-in-Fill.ensures.values, length-append c.loop-other.out.values (places 31 r), length-places 31 r, c.loop-other.invariant.limit)

pub returns-in-Fill-clause-puts : goal.returns-in-Fill-clause-puts
returns-in-Fill-clause-puts g c =
    let op = g.O.BitOp.op in
    let i = c.loop-other.invariant in
    let w = c.loop-other.word in
    let q = c.in-Fill.bit in
    let n = c.in-Fill.groups in
    let r = c.on_word-in-Fill.result in
    let x₀ = places 31 c.args.word ++ c.args.x.now.values in
    let t = taken c.loop-other.y c.take_group.new.self (Some c.take_group.result) (runs.Fill q n) (ap (λ r. Some r) c.in-Fill.is) c.take_group.ensures.takes in
    let small : c.group_of.result < 2 ^ 31 = rw c.group_of.ensures (group_small q) in
    let law = c.on_word-in-Fill.ensures.places 31 i.group small in
    let law' = rw c.group_of.ensures at law in
    rw (c.put_fill.ensures.left, c.put_fill.ensures.values, c.push_literal-in-Fill.ensures.values) (puts_word_fill op x₀ c.args.y.now.values c.args.out.now.values q n w r c.loop-other.x.values c.loop-other.y.values c.take_group.new.self.values c.loop-other.out.values i.puts t.0 t.2 law' (c.on_word-in-Fill.ensures.fits 31 i.group small) i.same i.aligned)

pub unreachable-requires : goal.unreachable-requires
unreachable-requires g c =
    let run = runs.Tail c.in-Tail.bits c.in-Tail.count in
    let t = taken c.loop-other.y c.take_group.new.self (Some c.take_group.result) run (ap (λ r. Some r) c.in-Tail.is) c.take_group.ensures.takes in
    let l = length-taken c.loop-other.y c.take_group.new.self run t in
    omega (arith, l, t.2.1, ap length t.2.3, c.loop-other.invariant.same)
