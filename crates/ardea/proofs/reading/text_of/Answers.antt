use Rattle.std.proofs.Common.{Ok, Err, ap, is_some}
use Rattle.std.proofs.lemmas.Result.{IfErr-weaker, IfOk-weaker}
use Rattle.ardea.proofs.AnswerLemmas.{StopsBy-weaker, text_from_file, text_from_input}
use Rattle.ardea.proofs.reading.text_of.Goals as goal

pub returns-in-None-clause-text : goal.returns-in-None-clause-text
returns-in-None-clause-text g c =
    IfOk-weaker c.text_of_input.result _ _ (λ text h. text_from_input c.args.load.now _ _ (Ok text.items) c.in-None.is h) c.text_of_input.ensures.text

pub returns-in-None-clause-stop : goal.returns-in-None-clause-stop
returns-in-None-clause-stop g c =
    IfErr-weaker c.text_of_input.result _ _
    (λ stop h. StopsBy-weaker _ _ _ _ _ _ (λ why w. text_from_input c.args.load.now _ _ (Err why) c.in-None.is w) (λ _. c.in-None.is) (λ h. absurd h) stop h)
    c.text_of_input.ensures.stop

pub returns-in-Some-clause-text : goal.returns-in-Some-clause-text
returns-in-Some-clause-text g c =
    IfOk-weaker c.text_of_file.result _ _ (λ text h. text_from_file c.args.load.now _ _ _ (Ok text.items) c.in-Some.is h) c.text_of_file.ensures.text

pub returns-in-Some-clause-stop : goal.returns-in-Some-clause-stop
returns-in-Some-clause-stop g c =
    IfErr-weaker c.text_of_file.result _ _
    (λ stop h. StopsBy-weaker _ _ _ _ _ _ (λ why w. text_from_file c.args.load.now _ _ _ (Err why) c.in-Some.is w) (λ h. absurd h) (λ _. ap is_some c.in-Some.is) stop h)
    c.text_of_file.ensures.stop
