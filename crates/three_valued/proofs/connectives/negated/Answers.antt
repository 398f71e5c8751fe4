use Rattle.std.proofs.Common.{◌≡◌, ◌≤◌, not, map, length, sym, ap, ◌∙◌, arith}
use Rattle.std.proofs.lemmas.List.{length-map}
use Rattle.wah_words.specs.Spelling.{words_of}
use Rattle.wah_logic.specs.Logic.{groups_and_rest}
use Rattle.wah_logic.proofs.UnionLemmas.{words_few}
use Rattle.three_valued.specs.Tables.{is_possible, is_yes, three_not}
use Rattle.three_valued.proofs.RowLemmas.{kept_answers, kept_bounds, known_answers, not_possible_rows, not_yes_rows}
use Rattle.three_valued.proofs.connectives.negated.Goals as goal

pub returns-in_err-definite-clause-steps : goal.returns-in_err-definite-clause-steps
returns-in_err-definite-clause-steps g c =
    let few = words_few (length c.args.a.now) c.possible.result.now (ap length c.possible.ensures ∙ length-map c.args.a.now is_possible) in
    omega (arith, few, c.complement.ensures.steps)

pub returns-then-is_known-clause-answers : goal.returns-then-is_known-clause-answers
returns-then-is_known-clause-answers g c =
    let a = c.args.a.now in
    let v = c.in_ok-definite.definite in
    let same = c.is_known.ensures c.if-is_known.true in
    let yes = c.in_ok-definite.ensures.values ∙ ap (map not) c.possible.ensures ∙ not_yes_rows a in
    let possible = c.in_ok-definite.ensures.values ∙ ap (map not) (c.possible.ensures ∙ same) ∙ not_possible_rows a in
    c.known.ensures ∙ known_answers v (map three_not a) yes possible

pub returns-then-is_known-clause-steps : goal.returns-then-is_known-clause-steps
returns-then-is_known-clause-steps g c =
    let few = words_few (length c.args.a.now) c.possible.result.now (ap length c.possible.ensures ∙ length-map c.args.a.now is_possible) in
    omega (arith, few, c.complement.ensures.steps)

pub returns-in_err-possible-clause-steps : goal.returns-in_err-possible-clause-steps
returns-in_err-possible-clause-steps g c =
    let few = words_few (length c.args.a.now) c.possible.result.now (ap length c.possible.ensures ∙ length-map c.args.a.now is_possible) in
    let also = words_few (length c.args.a.now) c.definite.result.now (ap length c.definite.ensures ∙ length-map c.args.a.now is_yes) in
    omega (arith, few, also, c.complement.ensures.steps, c.complement-2.ensures.steps)

pub within-requires : goal.within-requires
within-requires g c =
    let a = c.args.a.now in
    let yes = c.in_ok-definite.ensures.values ∙ ap (map not) c.possible.ensures ∙ not_yes_rows a in
    let possible = c.in_ok-possible.ensures.values ∙ ap (map not) c.definite.ensures ∙ not_possible_rows a in
    kept_bounds c.in_ok-definite.definite c.in_ok-possible.possible (map three_not a) yes possible

pub returns-clause-answers : goal.returns-clause-answers
returns-clause-answers g c =
    let a = c.args.a.now in
    let yes = c.in_ok-definite.ensures.values ∙ ap (map not) c.possible.ensures ∙ not_yes_rows a in
    let possible = c.in_ok-possible.ensures.values ∙ ap (map not) c.definite.ensures ∙ not_possible_rows a in
    c.within.ensures ∙ kept_answers c.in_ok-definite.definite c.in_ok-possible.possible (map three_not a) yes possible

pub returns-clause-steps : goal.returns-clause-steps
returns-clause-steps g c =
    let few = words_few (length c.args.a.now) c.possible.result.now (ap length c.possible.ensures ∙ length-map c.args.a.now is_possible) in
    let also = words_few (length c.args.a.now) c.definite.result.now (ap length c.definite.ensures ∙ length-map c.args.a.now is_yes) in
    omega (arith, few, also, c.complement.ensures.steps, c.complement-2.ensures.steps)
