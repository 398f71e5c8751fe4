use Rattle.generator.proofs.GeneratedLemmas.{generated-at, generated-length}
use Rattle.generator.proofs.laws.the_record_at_a_place.Goals as goal

pub returns-clause-long : goal.returns-clause-long
returns-clause-long c = generated-length

pub returns-clause-each : goal.returns-clause-each
returns-clause-each c = λ rows seed k within. generated-at rows seed k within
