use Rattle.std.proofs.Common.{[], ◌∷◌, Some, List, ℕ, refl}
use Rattle.std.specs.List.{flat_map}
use lib.Chars.{codes}
use Rattle.commands.specs.Command.{Builds, Command}
use Rattle.gen_run.specs.Made.{asked_by, asked_of, indexed_columns, queries, table_path}
use Rattle.gen_run.proofs.RanLemmas.{ran_last, ran_not, ran_stops, ran_then}
use Rattle.gen_run.proofs.asking.build_and_ask.Goals as goal

abbrev built : List ℕ → List Command
built spec = Builds table_path spec (Some indexed_columns) ∷ []

abbrev first : List ℕ
first = codes "where a < 250"

abbrev second : List ℕ
second = codes "where 100 <= a < 400 and not (c >= 50000)"

abbrev third : List ℕ
third = codes "where b = \"w5\" or a >= 900"

abbrev asked : List (List ℕ) → List Command
asked queries = flat_map asked_by queries

pub returns-in_err-label-clause-ran : goal.returns-in_err-label-clause-ran
returns-in_err-label-clause-ran g c = ran_not (asked_of c.args.spec.now) _ _ _ _ c.from_residual.result c.from_residual.ensures.0 refl

pub returns-in_err-label-2-clause-ran : goal.returns-in_err-label-2-clause-ran
returns-in_err-label-2-clause-ran g c =
    ran_not (asked_of c.args.spec.now) _ _ _ _ c.from_residual-in_err-label-2.result c.from_residual-in_err-label-2.ensures.0 refl

pub returns-in_err-run_task-clause-ran : goal.returns-in_err-run_task-clause-ran
unfolding indexed_columns
returns-in_err-run_task-clause-ran g c =
    let spec = c.in_ok-label.ensures.value in
    let columns = c.in_ok-label-2.ensures.value in
    ran_stops (built c.args.spec.now) (asked queries) _ _ _ _ _
    c.from_residual-in_err-run_task.result c.from_residual-in_err-run_task.ensures.0 (rw spec at (rw columns at c.in_err-run_task.ensures.ran))

pub returns-in_err-ask-clause-ran : goal.returns-in_err-ask-clause-ran
unfolding queries indexed_columns
returns-in_err-ask-clause-ran g c =
    let spec = c.in_ok-label.ensures.value in
    let columns = c.in_ok-label-2.ensures.value in
    ran_then (built c.args.spec.now) (asked (first ∷ second ∷ third ∷ [])) _ _ _ _ _ _ _ c.from_residual-in_err-ask.result
    (rw spec at (rw columns at c.in_ok-run_task.ensures.ran))
    (ran_stops (asked_by first) (asked (second ∷ third ∷ [])) _ _ _ _ _
    c.from_residual-in_err-ask.result c.from_residual-in_err-ask.ensures.0 c.in_err-ask.ensures.ran)

pub returns-in_err-ask-2-clause-ran : goal.returns-in_err-ask-2-clause-ran
unfolding queries indexed_columns
returns-in_err-ask-2-clause-ran g c =
    let spec = c.in_ok-label.ensures.value in
    let columns = c.in_ok-label-2.ensures.value in
    ran_then (built c.args.spec.now) (asked (first ∷ second ∷ third ∷ [])) _ _ _ _ _ _ _ c.from_residual-in_err-ask-2.result
    (rw spec at (rw columns at c.in_ok-run_task.ensures.ran))
    (ran_then (asked_by first) (asked (second ∷ third ∷ [])) _ _ _ _ _ _ _ c.from_residual-in_err-ask-2.result c.in_ok-ask.ensures.ran
    (ran_stops (asked_by second) (asked (third ∷ [])) _ _ _ _ _
    c.from_residual-in_err-ask-2.result c.from_residual-in_err-ask-2.ensures.0 c.in_err-ask-2.ensures.ran))

pub returns-clause-ran : goal.returns-clause-ran
unfolding queries indexed_columns
returns-clause-ran g c =
    let spec = c.in_ok-label.ensures.value in
    let columns = c.in_ok-label-2.ensures.value in
    ran_then (built c.args.spec.now) (asked (first ∷ second ∷ third ∷ [])) _ _ _ _ _ _ _ c.ask-3.result
    (rw spec at (rw columns at c.in_ok-run_task.ensures.ran))
    (ran_then (asked_by first) (asked (second ∷ third ∷ [])) _ _ _ _ _ _ _ c.ask-3.result c.in_ok-ask.ensures.ran
    (ran_then (asked_by second) (asked (third ∷ [])) _ _ _ _ _ _ _ c.ask-3.result c.in_ok-ask-2.ensures.ran
    (ran_last (asked_by third) _ _ _ _ c.ask-3.result c.ask-3.ensures.ran)))
