use Rattle.std.proofs.Common.{◌≡◌, ◌++◌, drop}
use Rattle.std.specs.List.{AllByRecursion}
use Rattle.select_group.specs.Totals.{first_totals}
use Rattle.select_group.proofs.TotalLemmas.{IsSmallIf}
use Rattle.select_group.proofs.totals.first_totals.Given as goal

abbrev pub invariant-loop-place : goal.invariant-loop-place
invariant-loop-place l = l.totals.items ++ first_totals (drop l.place l.items) (drop l.place l.numbers) ≡ first_totals l.items l.numbers
