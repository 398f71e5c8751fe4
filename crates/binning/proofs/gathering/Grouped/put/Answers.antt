use Rattle.std.proofs.Common.{sym, subst}
use Rattle.binning.specs.Gathered.{Gathered, Held, held}
use Rattle.binning.proofs.gathering.Grouped.put.Goals as goal

pub returns-clause-gathered : goal.returns-clause-gathered
returns-clause-gathered c =
    λ column h.
    let i : Gathered (held c.self.inside.rule c.self.inside.groups.items c.self.inside.places.items) column = subst (λ (s : Held). Gathered s column) (sym c.self.view_is) h in
    c.in_ok-put_rows.ensures.gathered column i
