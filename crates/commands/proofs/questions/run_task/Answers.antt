use Rattle.std.proofs.Common.{ap}
use Rattle.commands.specs.Command.{Answers, Builds, Estimates, Lists, Unknown, command_of_task}
use Rattle.commands.proofs.RunLemmas.{answer_leaves, estimate_leaves, leaves_at, list_leaves, runs_at, unknown_leaves, usage_runs}
use Rattle.commands.proofs.BuildRunLemmas.{build_leaves, build_ran}
use Rattle.commands.proofs.questions.run_task.Goals as goal

pub returns-in-Answer-clause-runs : goal.returns-in-Answer-clause-runs
returns-in-Answer-clause-runs g c = λ left.
    runs_at _ (Answers c.args.dir.now c.in-Answer.query c.in-Answer.tell) left _ _ _ _ (ap (command_of_task c.args.dir.now) c.in-Answer.is) (c.run_answer.ensures.runs left)

pub returns-in-Answer-clause-leaves : goal.returns-in-Answer-clause-leaves
returns-in-Answer-clause-leaves g c =
    leaves_at _ (Answers c.args.dir.now c.in-Answer.query c.in-Answer.tell) _ _ _ (ap (command_of_task c.args.dir.now) c.in-Answer.is)
    (answer_leaves c.args.dir.now c.in-Answer.query c.in-Answer.tell _ _ _ c.run_answer.ensures.files)

pub returns-in-Estimate-clause-runs : goal.returns-in-Estimate-clause-runs
returns-in-Estimate-clause-runs g c = λ left.
    runs_at _ (Estimates c.args.dir.now c.in-Estimate.query) left _ _ _ _ (ap (command_of_task c.args.dir.now) c.in-Estimate.is) (c.run_estimate.ensures.runs left)

pub returns-in-Estimate-clause-leaves : goal.returns-in-Estimate-clause-leaves
returns-in-Estimate-clause-leaves g c =
    leaves_at _ (Estimates c.args.dir.now c.in-Estimate.query) _ _ _ (ap (command_of_task c.args.dir.now) c.in-Estimate.is)
    (estimate_leaves c.args.dir.now c.in-Estimate.query _ _ _ c.run_estimate.ensures.files)

pub returns-in-List-clause-runs : goal.returns-in-List-clause-runs
returns-in-List-clause-runs g c = λ left.
    runs_at _ (Lists c.args.dir.now) left _ _ _ _ (ap (command_of_task c.args.dir.now) c.in-List.is) (c.run_list.ensures.runs left)

pub returns-in-List-clause-leaves : goal.returns-in-List-clause-leaves
returns-in-List-clause-leaves g c =
    leaves_at _ (Lists c.args.dir.now) _ _ _ (ap (command_of_task c.args.dir.now) c.in-List.is) (list_leaves c.args.dir.now _ _ _ c.run_list.ensures.files)

pub returns-in-Build-clause-runs : goal.returns-in-Build-clause-runs
returns-in-Build-clause-runs g c = λ left.
    runs_at _ (Builds c.args.dir.now c.in-Build.spec c.in-Build.columns) left _ _ _ _ (ap (command_of_task c.args.dir.now) c.in-Build.is)
    (build_ran c.args.dir.now c.in-Build.spec c.in-Build.columns left _ _ _ _ c.run_build.result c.run_build.ensures.runs)

pub returns-in-Build-clause-leaves : goal.returns-in-Build-clause-leaves
returns-in-Build-clause-leaves g c =
    leaves_at _ (Builds c.args.dir.now c.in-Build.spec c.in-Build.columns) _ _ _ (ap (command_of_task c.args.dir.now) c.in-Build.is)
    (build_leaves c.args.dir.now c.in-Build.spec c.in-Build.columns _ _ _ _ c.run_build.result c.run_build.ensures.runs)

pub returns-in-Check-clause-runs : goal.returns-in-Check-clause-runs
returns-in-Check-clause-runs g c = λ left.
    runs_at _ Unknown left _ _ _ _ (ap (command_of_task c.args.dir.now) c.in-Check.is)
    (usage_runs left _ _ _ c.refuse.result c.refuse.ensures.prints)

pub returns-in-Check-clause-leaves : goal.returns-in-Check-clause-leaves
returns-in-Check-clause-leaves g c = leaves_at _ Unknown _ _ _ (ap (command_of_task c.args.dir.now) c.in-Check.is) (unknown_leaves _ _)
