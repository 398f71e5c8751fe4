use Rattle.ardea.proofs.AnswerLemmas.{file_over, file_read, file_short}
use Rattle.ardea.proofs.reading.text_of_file.Goals as goal

pub returns-in-Ok-clause-text : goal.returns-in-Ok-clause-text
returns-in-Ok-clause-text g c = file_read c.args.name.now _ c.in-Ok.bytes.items c.in-Ok.ensures.given c.in-Ok.ensures.within

pub returns-in-Err-TooLong-clause-stop : goal.returns-in-Err-TooLong-clause-stop
returns-in-Err-TooLong-clause-stop g c =
    rw c.over.ensures
    (file_over c.args.name.now _ c.in-Err-TooLong.have c.in-Err-TooLong.limit (rw c.in-Err-TooLong.field-0-is at c.in-Err-TooLong.ensures.fault)
    (rw c.in-Err-TooLong.field-0-is at c.in-Err-TooLong.ensures.over))

pub returns-in_ok-file-in-Err-Short-clause-stop : goal.returns-in_ok-file-in-Err-Short-clause-stop
returns-in_ok-file-in-Err-Short-clause-stop g c =
    rw c.in_ok-file-in-Err-Short.ensures (file_short c.args.name.now _ (rw c.in-Err-Short.field-0-is at c.in-Err-Short.ensures.fault))
