use Rattle.std.proofs.Common.{◌≡◌, take}
use Rattle.binning.specs.Encodings.{vectors}
use Rattle.enc_equality.proofs.equality.copies.Given as goal

abbrev pub invariant-loop-bin : goal.invariant-loop-bin
invariant-loop-bin g l = l.copies.items ≡ vectors (take l.bin-index l.bins)
