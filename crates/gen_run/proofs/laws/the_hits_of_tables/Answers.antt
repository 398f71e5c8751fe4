use Rattle.gen_run.proofs.HitLemmas.{hits_counted, hits_stay}
use Rattle.gen_run.proofs.laws.the_hits_of_tables.Goals as goal

pub returns : goal.returns
returns c = record { same = hits_stay; plain = hits_counted }
