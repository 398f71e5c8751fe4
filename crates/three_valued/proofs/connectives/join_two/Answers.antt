use Rattle.std.proofs.Common.{◌≡◌, ap, sym, subst, ◌∙◌}
use Rattle.std.proofs.lemmas.Result.{IfOk-weaker}
use Rattle.binning.specs.declared.against_bins.Three.{Three}
use Rattle.wah_logic.specs.Logic.{and, or}
use Rattle.three_valued.specs.Tables.{ActsOnBounds, joins, three_and, three_or}
use Rattle.three_valued.specs.Rows.{rowwise}
use Rattle.three_valued.proofs.TableLemmas.{and_acts, or_acts}
use Rattle.three_valued.proofs.connectives.join_two.Goals as goal

pub by_bounds-requires-clause-table : goal.by_bounds-requires-clause-table
by_bounds-requires-clause-table g c = (three_or, or_acts)

pub by_bounds-requires-in-And-clause-table : goal.by_bounds-requires-in-And-clause-table
by_bounds-requires-in-And-clause-table g c = (three_and, and_acts)

pub returns-in-Or-clause-answers : goal.returns-in-Or-clause-answers
returns-in-Or-clause-answers g c =
    IfOk-weaker c.by_bounds.result
    (λ r. (table : Three → Three → Three) → ActsOnBounds or table → r ≡ rowwise table c.args.a.now c.args.b.now)
    (λ r. r ≡ rowwise (joins c.args.join) c.args.a.now c.args.b.now)
    (λ r says. says three_or or_acts ∙ ap (λ j. rowwise (joins j) c.args.a.now c.args.b.now) (sym c.in-Or.is)) c.by_bounds.ensures.answers

pub returns-in-And-clause-answers : goal.returns-in-And-clause-answers
returns-in-And-clause-answers g c =
    IfOk-weaker c.by_bounds-in-And.result
    (λ r. (table : Three → Three → Three) → ActsOnBounds and table → r ≡ rowwise table c.args.a.now c.args.b.now)
    (λ r. r ≡ rowwise (joins c.args.join) c.args.a.now c.args.b.now)
    (λ r says. says three_and and_acts ∙ ap (λ j. rowwise (joins j) c.args.a.now c.args.b.now) (sym c.in-And.is)) c.by_bounds-in-And.ensures.answers
