use Rattle.std.proofs.Common.{◌≡◌, ◌+◌, ◌*◌, ◌%◌, ◌++◌, length, replicate, ap, subst, ◌∙◌, arith, length-append}
use Rattle.std.proofs.lemmas.List.{length-replicate, length-drop}
use Rattle.wah_logic.specs.Rest.{Puts}
use Rattle.wah_logic.proofs.PutLemmas.{filled_length, puts_fill, puts_swapped, puts_both}
use Rattle.wah_logic.proofs.put.put_fills.Goals as goal

pub put_fill-requires-then-left-gt0-clause-long : goal.put_fill-requires-then-left-gt0-clause-long
put_fill-requires-then-left-gt0-clause-long g c =
    let n = 31 * c.take_fill-other.result.1 in
    let q = c.take_fill-other.result.0 in
    let v = c.take_fill-other.new.self.values in
    omega (arith, c.requires.same, ap length c.put_fill.ensures.left, length-drop (31 * c.args.groups) c.args.y.now.values, ap length c.take_fill-other.ensures.values, length-append (replicate n q) v, length-replicate n q)

pub put_fill-requires-then-left-gt0-clause-aligned : goal.put_fill-requires-then-left-gt0-clause-aligned
put_fill-requires-then-left-gt0-clause-aligned g c =
    let grown = filled_length g.O.BitOp.op c.args.bit (31 * c.args.groups) c.args.y.now.values c.args.out.now.values c.put_fill.new.out.values c.put_fill.ensures.values (omega (arith, c.requires.same)) in
    omega (arith, grown, c.requires.aligned)

pub put_fill-requires-then-left-gt0-clause-limit : goal.put_fill-requires-then-left-gt0-clause-limit
put_fill-requires-then-left-gt0-clause-limit g c =
    let n = 31 * c.take_fill-other.result.1 in
    let q = c.take_fill-other.result.0 in
    let v = c.take_fill-other.new.self.values in
    let grown = filled_length g.O.BitOp.op c.args.bit (31 * c.args.groups) c.args.y.now.values c.args.out.now.values c.put_fill.new.out.values c.put_fill.ensures.values (omega (arith, c.requires.same)) in
    omega (arith, grown, c.requires.limit, c.requires.same, ap length c.put_fill.ensures.left, length-drop (31 * c.args.groups) c.args.y.now.values, ap length c.take_fill-other.ensures.values, length-append (replicate n q) v, length-replicate n q)

pub returns-then-left-gt0-clause-puts : goal.returns-then-left-gt0-clause-puts
returns-then-left-gt0-clause-puts g c =
    let op = g.O.BitOp.op in
    let q = c.take_fill-other.result.0 in
    let n = c.take_fill-other.result.1 in
    let x = replicate (31 * c.args.groups) c.args.bit ++ c.args.x.now.values in
    let u = c.args.x.now.values in
    let y = c.args.y.now.values in
    let out = c.args.out.now.values in
    let v = c.take_fill-other.new.self.values in
    let out₁ = c.put_fill.new.out.values in
    let u₂ = c.put_fill-then-left-gt0.new.y.values in
    let out₂ = c.put_fill-then-left-gt0.new.out.values in
    let first : Puts op x y out u c.put_fill.new.y.values out₁ = rw (c.put_fill.ensures.left, c.put_fill.ensures.values) (puts_fill op c.args.bit c.args.groups u y out c.requires.same c.requires.aligned) in
    let first' : Puts op x y out u (replicate (31 * n) q ++ v) out₁ = subst (λ l. Puts op x y out u l out₁) c.take_fill-other.ensures.values first in
    let same : 31 * n + length v ≡ length u = omega (arith, first'.same, length-append (replicate (31 * n) q) v, length-replicate (31 * n) q) in
    let grown = filled_length op c.args.bit (31 * c.args.groups) y out out₁ c.put_fill.ensures.values (omega (arith, c.requires.same)) in
    let aligned : length out₁ % 31 ≡ 0 = omega (arith, grown, c.requires.aligned) in
    let second : Puts op u (replicate (31 * n) q ++ v) out₁ u₂ v out₂ = puts_swapped op u (replicate (31 * n) q ++ v) out₁ u₂ v out₂ (rw (c.put_fill-then-left-gt0.ensures.left, c.put_fill-then-left-gt0.ensures.values) (puts_fill (λ a b. op b a) q n v u out₁ same aligned)) in
    puts_both op x y out u (replicate (31 * n) q ++ v) out₁ u₂ v out₂ first' second

pub returns-else-left-gt0-clause-puts : goal.returns-else-left-gt0-clause-puts
returns-else-left-gt0-clause-puts g c =
    let op = g.O.BitOp.op in
    let q = c.take_fill-other.result.0 in
    let x = replicate (31 * c.args.groups) c.args.bit ++ c.args.x.now.values in
    let u = c.args.x.now.values in
    let y = c.args.y.now.values in
    let out = c.args.out.now.values in
    let v = c.take_fill-other.new.self.values in
    let out₁ = c.put_fill.new.out.values in
    let none : c.take_fill-other.result.1 ≡ 0 = omega (arith, c.if-left-gt0.false) in
    let all : c.put_fill.new.y.values ≡ v = c.take_fill-other.ensures.values ∙ ap (λ n. replicate (31 * n) q ++ v) none in
    let first : Puts op x y out u c.put_fill.new.y.values out₁ = rw (c.put_fill.ensures.left, c.put_fill.ensures.values) (puts_fill op c.args.bit c.args.groups u y out c.requires.same c.requires.aligned) in
    subst (λ l. Puts op x y out u l out₁) all first
