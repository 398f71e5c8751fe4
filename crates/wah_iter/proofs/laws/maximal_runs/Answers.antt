use Rattle.wah_iter.proofs.ApartLaws.{apart, rows}
use Rattle.wah_iter.proofs.laws.maximal_runs.Goals as goal

pub returns-clause-rows : goal.returns-clause-rows
returns-clause-rows c = rows

pub returns-clause-apart : goal.returns-clause-apart
returns-clause-apart c = apart
