use Rattle.std.proofs.Common.{◌≡◌, ◌∙◌, sym, ap, length, arith}
use Rattle.binning.proofs.ColumnLemmas.{length-cells}
use Rattle.binning.proofs.listed.Listed.len.Goals as goal

pub returns-clause-number : goal.returns-clause-number
returns-clause-number c =
    let i = c.self.invariant in
    let seen : length c.args.self.now ≡ length c.self.inside.values.items = ap length (sym c.self.view_is) ∙ length-cells c.self.inside.is_there.items c.self.inside.values.items i.0 ∙ i.0 in
    omega (arith, seen)
