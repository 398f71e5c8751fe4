use Rattle.std.proofs.Common.{◌≡◌, length}
use Rattle.select_group.proofs.tests.rows_of.Given as goal

abbrev pub invariant-loop-record : goal.invariant-loop-record
invariant-loop-record g l = record {
  one_each : length l.grouper.pick.items ≡ l.items;
  added : l.grouper.added ≡ l.record-index;
}
