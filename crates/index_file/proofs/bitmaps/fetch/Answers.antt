use Rattle.index_file.proofs.PlacesLemmas.{places_below}
use Rattle.index_file.proofs.bitmaps.fetch.Goals as goal

pub overflow_sub-size : goal.overflow_sub-size
overflow_sub-size g c = rw c.as_slice-offsets.ensures (places_below _ _ c.args.head.now.offsets c.args.k c.args.head.now.placed c.requires)
