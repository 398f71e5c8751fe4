use Rattle.std.proofs.Common.{◌+◌, ap, ◌∙◌}
use Rattle.index_file.specs.IndexFile.{places_bytes}
use Rattle.index_file.proofs.EdgeLemmas.{places_back}
use Rattle.index_file.proofs.places.offsets_of.Goals as goal

pub returns-in-None-clause-spelled : goal.returns-in-None-clause-spelled
returns-in-None-clause-spelled c =
    ap places_bytes (c.from_vec.ensures ∙ c.in-Ok.ensures.value) ∙ places_back (c.args.bitmaps + 1) c.args.bytes.now c.requires (λ i. (c.type_inv.bytes i).fits)
