use Rattle.std.proofs.Common.{refl, ap, ◌∙◌}
use Rattle.wah_iter.specs.Rows.{rows_of}
use Rattle.wah_iter.proofs.WalkLaws.{left_empty}
use Rattle.wah_iter.proofs.walks.ones.Goals as goal

pub returns-clause-rows : goal.returns-clause-rows
returns-clause-rows c = left_empty 0 0 0 0 c.cursor.result.values refl refl ∙ ap rows_of c.cursor.ensures.values
