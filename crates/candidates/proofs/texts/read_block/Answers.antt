use Rattle.std.proofs.Common.{Err, ap}
use Rattle.text_column.specs.Texts.{size_between, text_file}
use Rattle.candidates.specs.Texts.{texts_look}
use Rattle.candidates.proofs.FaultLemmas.{cause_done, text_cause, texts_outside, texts_stop}
use Rattle.candidates.proofs.ReadLemmas.{adds_if_some}
use Rattle.candidates.proofs.TextLemmas.{text_length}
use Rattle.candidates.proofs.texts.read_block.Goals as goal

pub returns-in-Ok-clause-cause : goal.returns-in-Ok-clause-cause
returns-in-Ok-clause-cause g c = cause_done _ _ _ _ c.in-Ok.ensures.cause

pub returns-in-Ok-clause-texts : goal.returns-in-Ok-clause-texts
returns-in-Ok-clause-texts g c = λ texts has. c.in-Ok.ensures.rows texts has.starts has.told

pub returns-in-Ok-clause-each : goal.returns-in-Ok-clause-each
returns-in-Ok-clause-each g c =
    let opened = c.args.text.now in
    adds_if_some (g.S.Store.files c.args.store.now) (g.S.Store.reads c.args.store.now) (g.S.Store.reads c.read_texts.new.store) (texts_look opened)
    (λ rows. size_between opened.starts.items rows.0 rows.1) (c.args.first, c.args.past) (λ some. c.in-Ok.ensures.once (λ e. cc) some) c.in-Ok.ensures.none

pub returns-in-Err-clause-cause : goal.returns-in-Err-clause-cause
returns-in-Err-clause-cause g c = rw c.of_texts.ensures (text_cause _ _ c.in-Err.fault c.in-Err.ensures.cause)

pub returns-in-Err-clause-stop : goal.returns-in-Err-clause-stop
returns-in-Err-clause-stop g c =
    rw c.of_texts.ensures (texts_stop (g.S.Store.files c.args.store.now) c.args.text.now c.in-Err.fault c.in-Err.ensures.stop
    (λ bytes told long short. c.in-Err.ensures.whole bytes told long (ap Err short)))

pub returns-in-Err-clause-whole : goal.returns-in-Err-clause-whole
returns-in-Err-clause-whole g c = λ texts has.
    rw c.of_texts.ensures (texts_outside c.in-Err.fault c.in-Err.ensures.stop
    (λ short. c.in-Err.ensures.whole (text_file texts) has.told (text_length (g.S.Store.files c.args.store.now) c.args.text.now texts has) (ap Err short)))
