use Rattle.part_meta.proofs.PartLemmas.{part_text-injective}
use Rattle.part_meta.proofs.part.one_part.Goals as goal

pub returns : goal.returns
returns c = part_text-injective
