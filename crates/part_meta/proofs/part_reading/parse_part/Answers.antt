use Rattle.part_meta.specs.PartText.{part_text}
use Rattle.part_meta.proofs.part_reading.parse_part.Goals as goal

pub returns-clause-found : goal.returns-clause-found
unfolding part_text
returns-clause-found c = c.read.ensures.found

pub returns-clause-exact : goal.returns-clause-exact
unfolding part_text
returns-clause-exact c = c.read.ensures.exact
