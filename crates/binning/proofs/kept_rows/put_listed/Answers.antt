use Rattle.std.proofs.Common.{subst, List, Option, ℤ}
use Rattle.binning.specs.Gathered.{Gathered}
use Rattle.binning.specs.Listed.{held_of}
use Rattle.binning.proofs.ListedLemmas.{gathered_of}
use Rattle.binning.proofs.kept_rows.put_listed.Goals as goal

pub returns-clause-gathered : goal.returns-clause-gathered
returns-clause-gathered c = subst (λ (column : List (Option ℤ)). Gathered (held_of c.in_ok-listed.listed) column) c.in_ok-listed.ensures (gathered_of c.in_ok-listed.listed)
