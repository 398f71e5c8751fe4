use Rattle.index_file.proofs.WrittenLemmas.{bitmap_read, bitmap_there, index_again}
use Rattle.index_file.proofs.laws.written_indexes_open.Goals as goal

pub returns-clause-head : goal.returns-clause-head
returns-clause-head c = λ rows spec edges bitmaps h few fit. index_again rows spec edges bitmaps h few fit

pub returns-clause-there : goal.returns-clause-there
returns-clause-there c = λ rows spec edges bitmaps k bits h. bitmap_there rows spec edges bitmaps k bits h

pub returns-clause-bitmap : goal.returns-clause-bitmap
returns-clause-bitmap c = λ k rows size bits limit same l. bitmap_read k rows size bits limit same l
