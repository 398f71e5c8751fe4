use Rattle.std.proofs.Common.{[], ◌∷◌, true, refl}
use Rattle.commands.specs.Command.{Answers, Estimates}
use Rattle.gen_run.specs.Made.{asked_by, table_path}
use Rattle.gen_run.proofs.RanLemmas.{ran_not, ran_some, ran_stops, ran_then}
use Rattle.gen_run.proofs.asking.ask.Goals as goal

pub returns-in_err-label-clause-ran : goal.returns-in_err-label-clause-ran
returns-in_err-label-clause-ran g c = ran_not (asked_by c.args.query.now) _ _ _ _ c.from_residual.result c.from_residual.ensures.0 refl

pub returns-in_err-run_task-clause-ran : goal.returns-in_err-run_task-clause-ran
returns-in_err-run_task-clause-ran g c =
    let value = c.in_ok-label.ensures.value in
    ran_stops (Estimates table_path c.args.query.now ∷ []) (Answers table_path c.args.query.now true ∷ []) _ _ _ _ _
    c.from_residual-in_err-run_task.result c.from_residual-in_err-run_task.ensures.0 (rw value at c.in_err-run_task.ensures.ran)

pub returns-in_err-label-2-clause-ran : goal.returns-in_err-label-2-clause-ran
returns-in_err-label-2-clause-ran g c =
    let value = c.in_ok-label.ensures.value in
    ran_some (Estimates table_path c.args.query.now ∷ []) (Answers table_path c.args.query.now true ∷ []) _ _ _ _ _ _
    c.from_residual-in_err-label-2.result c.from_residual-in_err-label-2.ensures.0 (rw value at c.in_ok-run_task.ensures.ran)

pub returns-clause-ran : goal.returns-clause-ran
returns-clause-ran g c =
    let value = c.in_ok-label.ensures.value in
    let again = c.in_ok-label-2.ensures.value in
    ran_then (Estimates table_path c.args.query.now ∷ []) (Answers table_path c.args.query.now true ∷ []) _ _ _ _ _ _ _ c.run_task-2.result
    (rw value at c.in_ok-run_task.ensures.ran) (rw again at c.run_task-2.ensures.ran)
