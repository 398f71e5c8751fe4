use Rattle.std.proofs.Common.{◌≡◌, ◌+◌, ◌++◌, length}
use Rattle.part_meta.specs.Lines.{lines_in}
use Rattle.part_meta.proofs.reading.read_lines.Given as goal

abbrev pub invariant-loop-text : goal.invariant-loop-text
invariant-loop-text g l = record {
  valid : g.F.Front.is_front l.front;
  cut : lines_in l.fn.bytes ≡ g.F.Front.front_lines l.front ++ lines_in l.rest;
  counted : l.number ≡ length (g.F.Front.front_lines l.front) + 1;
}

abbrev pub decreases-loop-text : goal.decreases-loop-text
decreases-loop-text g l = length l.rest
