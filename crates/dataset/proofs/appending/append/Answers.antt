use Rattle.std.proofs.Common.{sym, subst}
use Rattle.dataset.specs.Opened.{IsDataset}
use Rattle.dataset.proofs.AppendLemmas.{IsDataset-appended}
use Rattle.dataset.proofs.appending.append.Goals as goal

pub returns-clause-valid : goal.returns-clause-valid
returns-clause-valid g c =
    subst IsDataset (sym c.in_ok-extend.ensures.grown)
    (IsDataset-appended c.args.dataset.now c.args.per_part c.args.columns.now.records c.requires.valid c.requires.some c.requires.few
    c.in_ok-count.ensures.parts c.in_ok-count.ensures.numbers)
