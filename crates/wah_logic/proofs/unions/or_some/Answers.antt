use Rattle.std.proofs.Common.{map, length, arith}
use Rattle.wah_logic.specs.Logic.{groups_and_rest, words_in}
use Rattle.wah_logic.proofs.UnionLemmas.{one_digit, so_many_times, words_bound, twice_all}
use Rattle.wah_logic.proofs.unions.or_some.Goals as goal

pub returns-then-is_dense-clause-digits : goal.returns-then-is_dense-clause-digits
returns-then-is_dense-clause-digits g c = λ d h.
    so_many_times 1 d (words_in (map g.T.HasRows.row_bits c.args.list.now)) c.args.steps.now c.or_dense.new.steps (one_digit d (omega (arith, h, c.requires.some))) (omega (arith, c.or_dense.ensures.steps))

pub returns-then-is_dense-clause-steps : goal.returns-then-is_dense-clause-steps
returns-then-is_dense-clause-steps g c =
    let f = g.T.HasRows.row_bits in
    twice_all (groups_and_rest c.args.len) (length c.args.list.now) c.args.steps.now c.or_dense.new.steps (words_in (map f c.args.list.now)) (words_bound f c.args.len c.args.list.now c.requires.same) c.or_dense.ensures.steps
