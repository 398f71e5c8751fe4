use Rattle.std.proofs.Common.{◌≡◌, take, map}
use Rattle.column_file.specs.Values.{number_of}
use Rattle.column_file.proofs.numbers.numbers_in.Given as goal

abbrev pub invariant-loop-i : goal.invariant-loop-i
invariant-loop-i g l = take l.i l.out ≡ map (number_of g.T.Number.ty) (take l.i l.pieces)
