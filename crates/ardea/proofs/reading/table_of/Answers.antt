use Rattle.std.proofs.Common.{rules, ◌≡◌, true, List, ℕ, Option, IsSome, Ok, Err, is_ok, ap, subst}
use Rattle.std.proofs.lemmas.Result.{IfErr-weaker}
use Rattle.fb_outside.specs.Files.{Files}
use Rattle.csv_load.specs.Loaded.{loaded}
use Rattle.statuses.specs.declared.stop.Stop.{Stop}
use Rattle.ardea.specs.Answers.{StopsBy}
use Rattle.ardea.specs.Load.{records_or_refusal}
use Rattle.ardea.proofs.AnswerLemmas.{IfOk-two, StopsBy-weaker, table_from_records, table_from_schema, table_from_text, table_read}
use Rattle.ardea.proofs.EndLemmas.{TableStops}
use Rattle.ardea.proofs.LoadLemmas.{names_file, takes_input}
use Rattle.ardea.proofs.reading.table_of.Goals as goal

pub returns-in_err-schema-clause-stop : goal.returns-in_err-schema-clause-stop
returns-in_err-schema-clause-stop g c =
    let stops : TableStops c.args.load.now (g.I.Source.left c.args.input.now) (g.S.Store.files c.args.store.now) c.in_err-schema.field-0.0 =
    StopsBy-weaker _ _ _ _ _ _ (λ why w. table_from_schema c.args.load.now _ _ why w) (λ h. absurd h) (λ h. absurd h)
    c.in_err-schema.field-0.0 c.in_err-schema.ensures.stop in
    search rules

pub returns-in_err-text-clause-stop : goal.returns-in_err-text-clause-stop
returns-in_err-text-clause-stop g c =
    let stops : TableStops c.args.load.now (g.I.Source.left c.args.input.now) (g.S.Store.files c.args.store.now) c.in_err-text.field-0.0 =
    StopsBy-weaker _ _ _ _ _ _ (λ why w. table_from_text c.args.load.now _ _ c.in_ok-schema.schema why c.in_ok-schema.ensures.ok w)
    (λ none. takes_input c.args.load.now c.in_ok-schema.schema c.in_ok-schema.ensures.ok none)
    (λ some. (some, ap is_ok c.in_ok-schema.ensures.ok))
    c.in_err-text.field-0.0 c.in_err-text.ensures.stop in
    search rules

pub returns-clause-table : goal.returns-clause-table
returns-clause-table g c =
    IfOk-two c.records_of.result _ _ _
    (λ table same good. table_read c.args.load.now _ _ c.in_ok-schema.schema c.in_ok-text.text.items table c.in_ok-schema.ensures.ok
    c.in_ok-text.ensures.text same
    (subst (λ (t : List ℕ). loaded t c.in_ok-schema.schema c.args.load.now.skip ≡ Ok table.records) c.as_slice.ensures.value good))
    c.records_of.ensures.schema c.records_of.ensures.records

pub returns-clause-stop : goal.returns-clause-stop
returns-clause-stop g c =
    IfErr-weaker c.records_of.result _ _
    (λ stop h. StopsBy-weaker _ _ _ _ _ _
    (λ why w. table_from_records c.args.load.now _ _ c.in_ok-schema.schema c.in_ok-text.text.items why c.in_ok-schema.ensures.ok
    c.in_ok-text.ensures.text
    (subst (λ (t : List ℕ). records_or_refusal (loaded t c.in_ok-schema.schema c.args.load.now.skip) ≡ Err why) c.as_slice.ensures.value w))
    (λ none. absurd none) (λ none. absurd none) stop h)
    c.records_of.ensures.stop
