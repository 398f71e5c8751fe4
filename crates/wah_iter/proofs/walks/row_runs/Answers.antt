use Rattle.std.proofs.Common.{refl, ap, ◌∙◌}
use Rattle.wah_iter.specs.Rows.{runs_of}
use Rattle.wah_iter.proofs.RunLaws.{runs_left_empty}
use Rattle.wah_iter.proofs.walks.row_runs.Goals as goal

pub returns-clause-runs : goal.returns-clause-runs
returns-clause-runs c = runs_left_empty 0 0 0 0 c.cursor.result.values refl refl ∙ ap runs_of c.cursor.ensures.values
