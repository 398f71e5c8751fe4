use Rattle.index_file.proofs.FrontLemmas.{spelled_result}
use Rattle.index_file.proofs.front.front_of.Goals as goal

pub returns-clause-spelled : goal.returns-clause-spelled
returns-clause-spelled c = λ short. spelled_result c.args.rows c.args.bytes.now c.sizes_of.result (λ i. (c.type_inv.bytes i).fits) short c.sizes_of.ensures.exact
