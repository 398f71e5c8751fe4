use Rattle.std.proofs.Common.{◌≡◌, ◌+◌, map, drop}
use Rattle.wah_logic.specs.Logic.{words_in}
use Rattle.wah_logic.proofs.unions.is_dense.Given as goal

abbrev pub invariant-loop-vector : goal.invariant-loop-vector
invariant-loop-vector g l = l.words + words_in (map g.T.HasRows.row_bits (drop l.vector-index l.list)) ≡ words_in (map g.T.HasRows.row_bits l.list)
