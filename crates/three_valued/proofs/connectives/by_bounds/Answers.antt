use Rattle.std.proofs.Common.{sym, ◌∙◌}
use Rattle.three_valued.specs.Tables.{is_possible, is_yes}
use Rattle.three_valued.specs.Rows.{rowwise}
use Rattle.three_valued.proofs.RowLemmas.{joined_bound, kept_answers, kept_bounds, known_answers}
use Rattle.three_valued.proofs.connectives.by_bounds.Goals as goal

pub returns-then-is_known-2-clause-answers : goal.returns-then-is_known-2-clause-answers
returns-then-is_known-2-clause-answers g c = λ table acts.
    let op = g.O.BitOp.op in
    let a = c.args.a.now in
    let b = c.args.b.now in
    let v = c.in_ok-definite.definite in
    let p = c.definite.result.now in
    let q = c.definite-2.result.now in
    let yes = joined_bound op is_yes table acts.definite v p q a b c.in_ok-definite.ensures.values c.definite.ensures c.definite-2.ensures in
    let first = c.is_known.ensures c.if-is_known.true in
    let second = c.is_known-then-is_known.ensures c.if-is_known-2.true in
    let possible = joined_bound op is_possible table acts.possible v p q a b c.in_ok-definite.ensures.values (c.definite.ensures ∙ sym first) (c.definite-2.ensures ∙ sym second) in
    c.known.ensures ∙ known_answers v (rowwise table a b) yes possible

pub within-requires : goal.within-requires
within-requires g c =
    let op = g.O.BitOp.op in
    let table = c.requires.table.0 in
    let acts = c.requires.table.1 in
    let a = c.args.a.now in
    let b = c.args.b.now in
    let yes = joined_bound op is_yes table acts.definite c.in_ok-definite.definite c.definite.result.now c.definite-2.result.now a b c.in_ok-definite.ensures.values c.definite.ensures c.definite-2.ensures in
    let possible = joined_bound op is_possible table acts.possible c.in_ok-possible.possible c.possible.result.now c.possible-2.result.now a b c.in_ok-possible.ensures.values c.possible.ensures c.possible-2.ensures in
    kept_bounds c.in_ok-definite.definite c.in_ok-possible.possible (rowwise table a b) yes possible

pub returns-clause-answers : goal.returns-clause-answers
returns-clause-answers g c = λ table acts.
    let op = g.O.BitOp.op in
    let a = c.args.a.now in
    let b = c.args.b.now in
    let yes = joined_bound op is_yes table acts.definite c.in_ok-definite.definite c.definite.result.now c.definite-2.result.now a b c.in_ok-definite.ensures.values c.definite.ensures c.definite-2.ensures in
    let possible = joined_bound op is_possible table acts.possible c.in_ok-possible.possible c.possible.result.now c.possible-2.result.now a b c.in_ok-possible.ensures.values c.possible.ensures c.possible-2.ensures in
    c.within.ensures ∙ kept_answers c.in_ok-definite.definite c.in_ok-possible.possible (rowwise table a b) yes possible
