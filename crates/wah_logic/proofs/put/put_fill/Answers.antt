use Rattle.std.proofs.Common.{◌*◌, ◌++◌, false, true, replicate, ap, sym, ◌∙◌}
use Rattle.wah_logic.proofs.JoinLemmas.{beq_same}
use Rattle.wah_logic.proofs.PutLemmas.{beside_any, beside_none}
use Rattle.wah_logic.proofs.put.put_fill.Goals as goal

pub returns-then-groups-eq0-clause-values : goal.returns-then-groups-eq0-clause-values
returns-then-groups-eq0-clause-values g c = beside_none g.O.BitOp.op c.args.bit c.args.out.now.values c.args.y.now.values c.args.groups c.if-groups-eq0.true

pub returns-then-on_bit-clause-values : goal.returns-then-on_bit-clause-values
returns-then-on_bit-clause-values g c =
    let op = g.O.BitOp.op in
    let p = c.args.bit in
    let n = 31 * c.args.groups in
    let same = beq_same c.on_bit.result c.on_bit-2.result (op p false) (op p true) c.if-on_bit.true c.on_bit.ensures c.on_bit-2.ensures in
    let put = ap (λ b. replicate n b) c.on_bit-then-on_bit.ensures ∙ sym (beside_any op p n c.args.y.now.values same c.requires.long) in
    c.push_fill.ensures.values ∙ ap (λ l. c.args.out.now.values ++ l) put
