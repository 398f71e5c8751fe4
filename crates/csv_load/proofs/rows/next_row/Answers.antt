-- The clause of the read says what `read-either` needs.
use Rattle.csv_load.proofs.RecordsOfText.{read-either}
use Rattle.csv_load.proofs.rows.next_row.Goals as goal

pub returns-in-Ok-clause-plain : goal.returns-in-Ok-clause-plain
returns-in-Ok-clause-plain c =
    let read = c.in-Ok.ensures in
    (read-either c.args.rdr.now c.read_byte_record.new.self c.in-Ok.found _ c.requires (read.reads c.requires.trims c.requires.ready) (read.ready c.requires.trims) read.flexible).0

pub returns-in-Ok-clause-row : goal.returns-in-Ok-clause-row
returns-in-Ok-clause-row c =
    let read = c.in-Ok.ensures in
    (read-either c.args.rdr.now c.read_byte_record.new.self c.in-Ok.found _ c.requires (read.reads c.requires.trims c.requires.ready) (read.ready c.requires.trims) read.flexible).1
