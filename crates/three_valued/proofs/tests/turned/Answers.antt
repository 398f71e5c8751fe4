use Rattle.std.proofs.Common.{length, ap, ◌∙◌}
use Rattle.three_valued.proofs.EvaluationLemmas.{one_atoms}
use Rattle.three_valued.proofs.PlanLemmas.{atoms_of-not}
use Rattle.three_valued.proofs.tests.turned.Goals as goal

pub returns : goal.returns
returns c = ap length (atoms_of-not c.in_ok-part.part) ∙ one_atoms c.in_ok-part.part _ c.in_ok-part.ensures
