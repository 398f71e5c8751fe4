use Rattle.std.proofs.Common.{sym, ◌∙◌, arith}
use Rattle.std.proofs.lemmas.Int.{ints}
use Rattle.where_plan.proofs.RangeLemmas.{none_at_most}
use Rattle.where_plan.proofs.numbers.at_most.Goals as goal

pub returns-then-limit-ends-clause-numbers : goal.returns-then-limit-ends-clause-numbers
returns-then-limit-ends-clause-numbers c = λ n. c.nothing.ensures.numbers n ∙ sym (none_at_most c.args.ends c.args.limit n (omega (arith, ints)))
