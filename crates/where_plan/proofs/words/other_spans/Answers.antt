use Rattle.std.proofs.Common.{◌≡◌, pos, sym, arith, to_z, of_z}
use Rattle.std.specs.Int.{w128}
use Rattle.std.proofs.lemmas.Int.{ints}
use Rattle.where_plan.proofs.CodeLemmas.{all_given, other_given}
use Rattle.where_plan.proofs.words.other_spans.Goals as goal

pub returns-in-None : goal.returns-in-None
returns-in-None c =
    all_given c.args.words.now c.args.text.now c.code_range-codes.result c.of.result c.code_range-codes.ensures.valid (sym c.in-None.ensures) c.code_range-codes.ensures.value c.of.ensures.same c.of.ensures.apart

pub returns-in-Some : goal.returns-in-Some
returns-in-Some c =
    let z = to_z w128 (of_z w128 c.from.result) in
    let e : z ≡ pos c.in-Some.code = omega (arith, ints, c.from.ensures) in
    other_given c.args.words.now c.args.text.now c.in-Some.code c.code_range-codes.result z c.compared_spans.result c.code_range-codes.ensures.valid (sym c.in-Some.ensures) c.code_range-codes.ensures.value e c.compared_spans.ensures
