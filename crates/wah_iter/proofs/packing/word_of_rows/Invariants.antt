use Rattle.std.proofs.Common.{◌≡◌, take}
use Rattle.wah_iter.proofs.PackLaws.{Packed, reached}
use Rattle.wah_iter.proofs.packing.word_of_rows.Given as goal

abbrev pub invariant-loop-count : goal.invariant-loop-count
invariant-loop-count l = Packed l.base l.width (reached l.base l.rows l.count) l.word (take l.count l.rows)
