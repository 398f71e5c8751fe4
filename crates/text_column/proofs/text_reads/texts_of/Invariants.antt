use Rattle.std.proofs.Common.{◌≡◌, ◌++◌, length}
use Rattle.text_column.specs.Texts.{AreWithin, texts_at}
use Rattle.text_column.proofs.text_reads.texts_of.Given as goal

abbrev pub invariant-loop-starts : goal.invariant-loop-starts
invariant-loop-starts l = record {
  within : AreWithin l.starts l.bytes;
  read : texts_at l.initial.starts l.initial.bytes ≡ l.texts.items ++ texts_at l.starts l.bytes;
}

abbrev pub decreases-loop-starts : goal.decreases-loop-starts
decreases-loop-starts l = length l.starts
