use Rattle.std.proofs.Common.{◌≡◌, ◌++◌}
use Rattle.std.specs.List.{AllByRecursion}
use Rattle.select_group.specs.Totals.{HasOneEach, rows_of}
use Rattle.select_group.proofs.grouper.rows_of.Given as goal

abbrev pub invariant-loop-key : goal.invariant-loop-key
invariant-loop-key l = record {
  so_far : l.rows.items ++ rows_of l.items l.key-iterator ≡ rows_of l.items l.initial.key-iterator;
  fit : AllByRecursion (HasOneEach l.items) l.key-iterator;
}
