use Rattle.std.proofs.Common.{◌<◌, sym, ap, subst, ◌∙◌}
use Rattle.std.specs.List.{AllByRecursion}
use Rattle.where_plan.specs.Plans.{place_in}
use Rattle.three_valued.specs.Plans.{atoms_of}
use Rattle.three_valued.proofs.PlanLemmas.{atoms_of-not}
use Rattle.stages.proofs.tests.turned.Goals as goal

pub returns : goal.returns
returns c =
    subst (AllByRecursion (λ atom. place_in atom < 5)) (sym (atoms_of-not c.in_ok-part.part ∙ ap atoms_of c.in_ok-part.ensures)) c.requires
