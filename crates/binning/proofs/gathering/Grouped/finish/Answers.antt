use Rattle.std.proofs.Common.{◌∙◌, sym, ap, subst}
use Rattle.binning.specs.Gathered.{Gathered, Held, held}
use Rattle.binning.specs.Bins.{bins_of}
use Rattle.binning.proofs.gathering.Grouped.finish.Goals as goal

pub returns : goal.returns
returns c =
    λ column g.
    let h : Gathered (held c.self.inside.rule c.self.inside.groups.items c.self.inside.places.items) column = subst (λ (s : Held). Gathered s column) (sym c.self.view_is) g in
    let i : Gathered (held c.self.inside.rule c.deref.result.now c.deref-2.result.now) column = rw (c.deref.ensures.value, c.deref-2.ensures.value) h in
    c.in_ok-bins.ensures c.self.inside.rule column i ∙ ap (λ (s : Held). bins_of s.rule column) c.self.view_is
