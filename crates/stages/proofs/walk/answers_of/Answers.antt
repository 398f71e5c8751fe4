use Rattle.std.proofs.Common.{◌≡◌, ℕ, List, [], ◌++◌, drop, refl}
use Rattle.std.proofs.lemmas.Result.{IfOk-weaker}
use Rattle.binning.specs.declared.against_bins.Three.{Three}
use Rattle.where_plan.specs.declared.plan.PlanAtom.{PlanAtom}
use Rattle.three_valued.specs.Held.{held_answers}
use Rattle.three_valued.specs.Plans.{atoms_of, three}
use Rattle.three_valued.specs.Rows.{columns, each_row}
use Rattle.three_valued.proofs.DecidingLemmas.{told_from_start}
use Rattle.stages.proofs.walk.answers_of.Goals as goal

pub returns-clause-answers : goal.returns-clause-answers
returns-clause-answers g c =
    let rows = c.args.rows in
    let plan = c.args.plan.now in
    let answers = c.args.answers.now in
    IfOk-weaker c.combined.result
    (λ held. (answer : ℕ → PlanAtom → Three) (more : List (List Three)) → drop 0 answers ≡ columns rows answer (atoms_of plan) ++ more → held_answers held ≡ each_row rows (λ row. three (answer row) plan))
    (λ held. (answer : ℕ → PlanAtom → Three) → answers ≡ columns rows answer (atoms_of plan) → held_answers held ≡ each_row rows (λ row. three (answer row) plan))
    (λ held says answer told. says answer [] (told_from_start rows rows answer (atoms_of plan) answers refl told))
    c.combined.ensures.answers
