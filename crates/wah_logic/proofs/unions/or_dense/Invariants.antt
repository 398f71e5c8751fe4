use Rattle.std.proofs.Common.{◌≡◌, ◌+◌, map, drop, length}
use Rattle.wah_logic.specs.Logic.{each_place, or, union, words_in}
use Rattle.wah_logic.proofs.unions.or_dense.Given as goal

abbrev pub invariant-loop-vector : goal.invariant-loop-vector
invariant-loop-vector g l = record {
  values : each_place or l.groups (union l.len (map g.T.HasRows.row_bits (drop l.vector-index l.list))) ≡ union l.len (map g.T.HasRows.row_bits l.list);
  long : length l.groups ≡ l.len;
  steps : l.steps + words_in (map g.T.HasRows.row_bits (drop l.vector-index l.list)) ≡ l.fn.steps + words_in (map g.T.HasRows.row_bits l.list);
}
