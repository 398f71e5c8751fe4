use Rattle.std.proofs.Common.{◌≡◌, ◌++◌, take}
use Rattle.binning.specs.Encodings.{vectors}
use Rattle.enc_two_level.proofs.two_level.append_copies.Given as goal

abbrev pub invariant-loop-bin : goal.invariant-loop-bin
invariant-loop-bin g l = l.bitmaps.items ≡ l.fn.bitmaps.items ++ vectors (take l.bin-index l.bins)
