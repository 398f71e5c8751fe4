use Rattle.std.proofs.Common.{ap, length, ◌∙◌}
use Rattle.index_file.proofs.PlacesLemmas.{length-places}
use Rattle.index_file.proofs.writing.bytes_of.Goals as goal

pub head_of-requires-clause-bitmaps : goal.head_of-requires-clause-bitmaps
head_of-requires-clause-bitmaps g c = ap length (c.deref-2.ensures.value ∙ c.in_ok-places.ensures) ∙ length-places _ c.args.bitmaps.now
