-- What came so far was taken from the input, and is within the limit; each turn adds to it.
use Rattle.std.proofs.Common.{◌≡◌, ◌≤◌, ◌-◌, length}
use Rattle.fb_outside.specs.Streams.{Takes}
use Rattle.csv_load.proofs.input.read_by_blocks.Given as goal

abbrev pub invariant-loop-count : goal.invariant-loop-count
invariant-loop-count g l = record {
  within : length l.all.items ≤ l.limit;
  taken : Takes (g.I.Source.left l.fn.input) (g.I.Source.left l.input) l.all.items;
  told : g.I.Source.faults l.input ≡ g.I.Source.faults l.fn.input;
}

abbrev pub decreases-loop-count : goal.decreases-loop-count
decreases-loop-count g l = l.limit - length l.all.items
