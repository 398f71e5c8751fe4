use Rattle.std.proofs.Common.{◌≡◌, ◌+◌, ◌≤◌, ◌++◌, length, map}
use Rattle.binning.specs.Spans.{has}
use Rattle.candidates.proofs.numbers.push_tests.Given as goal

abbrev pub invariant-loop-rest : goal.invariant-loop-rest
invariant-loop-rest l = record {
  bits : l.found.bits ++ map (has l.spans) l.rest ≡ l.fn.found.bits ++ map (has l.spans) l.fn.numbers;
  rows : l.found.rows ≡ l.fn.found.rows;
  room : length l.found.bits + length l.rest ≤ l.found.rows;
}

abbrev pub decreases-loop-rest : goal.decreases-loop-rest
decreases-loop-rest l = length l.rest
