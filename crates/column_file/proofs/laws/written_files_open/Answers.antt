use Rattle.std.proofs.Common.{length, refl}
use Rattle.column_file.proofs.OpeningLemmas.{spelled_to_end, column_opens}
use Rattle.column_file.proofs.laws.written_files_open.Goals as goal

pub returns-clause-mask : goal.returns-clause-mask
returns-clause-mask c = λ bits limit. spelled_to_end (length bits) bits refl limit

pub returns-clause-column : goal.returns-clause-column
returns-clause-column c = column_opens
