use Rattle.std.proofs.Common.{◌+◌, length}
use Rattle.std.specs.Int.{div_ceil}
use Rattle.enc_interval.proofs.SlidingLemmas.{AreSliding}
use Rattle.enc_interval.proofs.sliding.sliding_unions.Given as goal

abbrev pub invariant-loop-k : goal.invariant-loop-k
invariant-loop-k g l = AreSliding l.rows (div_ceil (length l.bins) 2) l.bins (l.k + 1) l.unions.items
