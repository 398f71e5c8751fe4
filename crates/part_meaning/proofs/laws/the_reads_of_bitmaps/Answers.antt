use Rattle.part_meaning.proofs.FetchLemmas.{fetched_are_bitmaps}
use Rattle.part_meaning.proofs.laws.the_reads_of_bitmaps.Goals as goal

pub returns : goal.returns
returns c = fetched_are_bitmaps
