use Rattle.ardea.proofs.AnswerLemmas.{too_long_of}
use Rattle.ardea.proofs.reading.text_of_input.Goals as goal

pub returns-in-Err-TooLong-clause-stop : goal.returns-in-Err-TooLong-clause-stop
returns-in-Err-TooLong-clause-stop g c =
    rw c.over.ensures (too_long_of _ _ c.in-Err-TooLong.limit 65536 (rw c.in-Err-TooLong.field-0-is at c.in-Err-TooLong.ensures.fault))
