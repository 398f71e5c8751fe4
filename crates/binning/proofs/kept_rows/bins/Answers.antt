use Rattle.std.proofs.Common.{◌≡◌, ◌∙◌, ap, []}
use Rattle.binning.specs.Bins.{bins_of, cells}
use Rattle.binning.specs.declared.rules.Keying.{Keying}
use Rattle.binning.proofs.kept_rows.bins.Goals as goal

pub returns-clause-bins : goal.returns-clause-bins
returns-clause-bins g c =
    let e : c.in_ok-all.all.rule ≡ c.args.rule.now = c.in_ok-all.ensures.rule ∙ c.make-gatherer.ensures.rule ∙ c.in_ok-copy.ensures in
    c.in_ok-bins.ensures (cells c.args.mask.now c.args.values.now) (c.in_ok-all.ensures.gathered [] c.make-gatherer.ensures.gathered)
    ∙ ap (λ (k : Keying). bins_of k (cells c.args.mask.now c.args.values.now)) e
