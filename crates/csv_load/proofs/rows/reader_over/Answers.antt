use Rattle.std.proofs.Common.{refl}
use Rattle.csv_load.specs.RowsLeft.{records_left}
use Rattle.csv_load.proofs.rows.reader_over.Goals as goal

pub returns-clause-all : goal.returns-clause-all
unfolding records_left
returns-clause-all c = rw (c.from_reader.ensures.source, c.from_reader.ensures.state) refl
