use Rattle.std.proofs.Common.{map, ap, ◌∙◌}
use Rattle.three_valued.specs.Tables.{decided}
use Rattle.three_valued.proofs.RowLemmas.{decided_all}
use Rattle.three_valued.proofs.row_answers.Answers.uniform.Goals as goal

pub returns : goal.returns
returns c = c.known.ensures ∙ ap (map decided) c.in_ok-vector.ensures ∙ decided_all c.args.rows c.args.value
