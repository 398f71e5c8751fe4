use Rattle.std.proofs.Common.{◌≡◌, ◌+◌, ◌≤◌, false, length}
use Rattle.enc_two_level.proofs.tests.rows_of.Given as goal

abbrev pub invariant-loop-row : goal.invariant-loop-row
invariant-loop-row l = record {
  open_ : l.out.has_tail ≡ false;
  number : length l.out.values ≡ l.row;
  room : 40 ≤ l.out.spare + l.row;
}
