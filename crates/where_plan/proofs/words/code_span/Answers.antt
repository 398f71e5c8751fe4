use Rattle.std.proofs.Common.{◌≡◌, pos, sym, arith, to_z, of_z}
use Rattle.std.specs.Int.{w128}
use Rattle.std.proofs.lemmas.Int.{ints}
use Rattle.where_plan.proofs.CodeLemmas.{code_given, no_code_given}
use Rattle.where_plan.proofs.words.code_span.Goals as goal

pub returns-in-None-clause-numbers : goal.returns-in-None-clause-numbers
returns-in-None-clause-numbers c = λ n.
    no_code_given c.args.words.now c.args.text.now c.nothing.result n c.code_range-codes.ensures.valid (sym c.in-None.ensures) (c.nothing.ensures.numbers n)

pub returns-in-Some-clause-numbers : goal.returns-in-Some-clause-numbers
returns-in-Some-clause-numbers c = λ n.
    let z = to_z w128 (of_z w128 c.from.result) in
    let k = c.only.ensures.numbers n in
    let e : z ≡ pos c.in-Some.code = omega (arith, ints, c.from.ensures) in
    code_given c.args.words.now c.args.text.now c.in-Some.code c.code_range-codes.result c.only.result z n c.code_range-codes.ensures.valid (sym c.in-Some.ensures) c.code_range-codes.ensures.value e k
