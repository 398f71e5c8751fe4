use Rattle.std.proofs.Common.{length, ap, arith}
use Rattle.wah_words.specs.declared.run.Run.TheVariants as runs
use Rattle.wah_words.specs.Left.{run_values}
use Rattle.wah_logic.proofs.WalkLemmas.{length-run_values}
use Rattle.wah_logic.proofs.logic.push_run.Goals as goal

pub push_literal-requires-clause-limit : goal.push_literal-requires-clause-limit
push_literal-requires-clause-limit c = omega (arith, c.requires.limit, length-run_values (runs.Literal c.in-Literal.word), ap (λ r. length (run_values r)) c.in-Literal.is)

pub push_tail-requires-clause-limit : goal.push_tail-requires-clause-limit
push_tail-requires-clause-limit c = omega (arith, c.requires.limit, length-run_values (runs.Tail c.in-Tail.bits c.in-Tail.count), ap (λ r. length (run_values r)) c.in-Tail.is)
