use Rattle.enc_range.proofs.RunningLemmas.{AreRunning}
use Rattle.enc_range.proofs.range.running_unions.Given as goal

abbrev pub invariant-loop-bin : goal.invariant-loop-bin
invariant-loop-bin g l = AreRunning l.rows l.bins l.bin-index l.unions.items
