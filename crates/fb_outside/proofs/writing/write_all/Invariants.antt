use Rattle.std.proofs.Common.{◌≤◌, ◌-◌, take, length}
use Rattle.std.specs.Io.KnownBytes.{Appends}
use Rattle.fb_outside.proofs.writing.write_all.Given as goal

-- the front that was written stands behind what the writer held
abbrev pub invariant-loop-written : goal.invariant-loop-written
invariant-loop-written g l = record {
  fits : l.written ≤ length l.bytes;
  bytes : Appends (g.W.Write.contents l.fn.writer) (g.W.Write.contents l.writer) (take l.written l.bytes);
}

abbrev pub decreases-loop-written : goal.decreases-loop-written
decreases-loop-written g l = length l.bytes - l.written
