use Rattle.world.proofs.ContentLemmas.{IsContent-extended, records-extended}
use Rattle.world.proofs.the_content_after_a_load.Goals as goal

pub returns-clause-valid : goal.returns-clause-valid
returns-clause-valid c = IsContent-extended

pub returns-clause-records : goal.returns-clause-records
returns-clause-records c = records-extended
