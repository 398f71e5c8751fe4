use Rattle.std.proofs.Common.{ap, ◌∙◌}
use Rattle.index_file.specs.IndexFile.{edges_bytes}
use Rattle.index_file.proofs.EdgeLemmas.{edges_back}
use Rattle.index_file.proofs.edge.bins_of.Goals as goal

pub returns-in-None-clause-spelled : goal.returns-in-None-clause-spelled
returns-in-None-clause-spelled c =
    ap edges_bytes (c.from_vec.ensures ∙ c.in-Ok.ensures.value) ∙ edges_back c.args.count c.args.bytes.now c.requires (λ i. (c.type_inv.bytes i).fits)
