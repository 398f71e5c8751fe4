use Rattle.std.proofs.Common.{sym, ◌∙◌}
use Rattle.three_valued.specs.Tables.{is_possible, is_yes, three_xor}
use Rattle.three_valued.specs.Rows.{rowwise}
use Rattle.three_valued.proofs.TableLemmas.{xor_definite, xor_possible}
use Rattle.three_valued.proofs.RowLemmas.{either_bound, kept_answers, kept_bounds, xor_answers}
use Rattle.three_valued.proofs.connectives.exactly_one.Goals as goal

pub returns-then-is_known-2-clause-answers : goal.returns-then-is_known-2-clause-answers
returns-then-is_known-2-clause-answers g c =
    c.known.ensures ∙ xor_answers c.in_ok-rows.rows c.definite.result.now c.definite-then-is_known-2.result.now c.args.first.now c.args.second.now c.in_ok-rows.ensures.values c.definite.ensures c.definite-then-is_known-2.ensures (c.is_known.ensures c.if-is_known.true) (c.is_known-then-is_known.ensures c.if-is_known-2.true)

pub within-requires : goal.within-requires
within-requires g c =
    let a = c.args.first.now in
    let b = c.args.second.now in
    let yes = either_bound is_yes is_possible xor_definite c.in_ok-definite.definite c.definite-2.result.now c.possible.result.now c.definite-3.result.now c.possible-2.result.now a b c.in_ok-definite.ensures.rows c.definite-2.ensures c.possible.ensures c.definite-3.ensures c.possible-2.ensures in
    let possible = either_bound is_possible is_yes xor_possible c.in_ok-possible.possible c.possible-3.result.now c.definite-4.result.now c.possible-4.result.now c.definite-5.result.now a b c.in_ok-possible.ensures.rows c.possible-3.ensures c.definite-4.ensures c.possible-4.ensures c.definite-5.ensures in
    kept_bounds c.in_ok-definite.definite c.in_ok-possible.possible (rowwise three_xor a b) yes possible

pub returns-clause-answers : goal.returns-clause-answers
returns-clause-answers g c =
    let a = c.args.first.now in
    let b = c.args.second.now in
    let yes = either_bound is_yes is_possible xor_definite c.in_ok-definite.definite c.definite-2.result.now c.possible.result.now c.definite-3.result.now c.possible-2.result.now a b c.in_ok-definite.ensures.rows c.definite-2.ensures c.possible.ensures c.definite-3.ensures c.possible-2.ensures in
    let possible = either_bound is_possible is_yes xor_possible c.in_ok-possible.possible c.possible-3.result.now c.definite-4.result.now c.possible-4.result.now c.definite-5.result.now a b c.in_ok-possible.ensures.rows c.possible-3.ensures c.definite-4.ensures c.possible-4.ensures c.definite-5.ensures in
    c.within.ensures ∙ kept_answers c.in_ok-definite.definite c.in_ok-possible.possible (rowwise three_xor a b) yes possible
