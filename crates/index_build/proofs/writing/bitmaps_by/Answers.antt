use Rattle.std.proofs.Common.{arith}
use Rattle.index_build.proofs.IndexLemmas.{of_column_apart, of_column_few, of_column_long}
use Rattle.index_build.proofs.writing.bitmaps_by.Goals as goal

pub bitmaps-requires-clause-few : goal.bitmaps-requires-clause-few
bitmaps-requires-clause-few g c = omega (arith, of_column_few c.args.rows c.args.bins.now c.requires.bins, c.requires.limit)

pub bitmaps-requires-clause-long : goal.bitmaps-requires-clause-long
bitmaps-requires-clause-long g c = of_column_long c.args.rows c.args.bins.now c.requires.bins

pub returns-in-Ok-clause-bitmaps : goal.returns-in-Ok-clause-bitmaps
returns-in-Ok-clause-bitmaps g c =
    rw c.of.ensures at (c.in-Ok.ensures.bitmaps (of_column_apart c.args.rows c.args.bins.now c.requires.bins))
