-- The records that are left after the skipped ones are those of the text.
use Rattle.std.proofs.Common.{◌≡◌, ◌+◌, ◌∙◌, ap, arith, drop, length}
use Rattle.std.proofs.lemmas.List.{length-drop}
use Rattle.csv_load.specs.Loaded.{text_records}
use Rattle.csv_load.specs.RowsLeft.{rows_left}
use Rattle.std.proofs.lemmas.Result.{IfOk-weaker, MatchResult-weaker}
use Rattle.csv_load.proofs.LawFacts.{loaded-each, loaded-first}
use Rattle.csv_load.proofs.LoadFacts.{loaded-rest, loaded_from-none}
use Rattle.csv_load.proofs.RecordsOfText.{length-text_records}
use Rattle.csv_load.proofs.load.records.Goals as goal

pub returns-then-not-branch-clause-records : goal.returns-then-not-branch-clause-records
returns-then-not-branch-clause-records c =
    let rest = rw (c.if-not-branch.true, c.reader_over-rdr.ensures.all) at c.in_ok-skip_rows.ensures.rows in
    rw c.in_ok-make.ensures
    (loaded-rest c.args.bytes.now c.args.schema.now c.args.skip _ rest ∙ loaded_from-none (c.args.skip + 1) c.args.schema.now)

pub load_rows-requires-clause-fits : goal.load_rows-requires-clause-fits
load_rows-requires-clause-fits c = λ some.
    let rest = rw (c.if-not-branch.false, c.reader_over-rdr.ensures.all) at c.in_ok-skip_rows.ensures.rows in
    let all = length-text_records c.args.bytes.now in
    let left = length-drop c.args.skip (text_records c.args.bytes.now) in
    let same : length (drop c.args.skip (text_records c.args.bytes.now)) ≡ length (rows_left c.skip_rows.new.rdr) = ap length rest in
    omega arith

pub returns-clause-records : goal.returns-clause-records
returns-clause-records c =
    let rest = rw (c.if-not-branch.false, c.reader_over-rdr.ensures.all) at c.in_ok-skip_rows.ensures.rows in
    rw (loaded-rest c.args.bytes.now c.args.schema.now c.args.skip _ rest) c.load_rows.ensures.records

pub returns-clause-fault : goal.returns-clause-fault
returns-clause-fault c =
    let rest = rw (c.if-not-branch.false, c.reader_over-rdr.ensures.all) at c.in_ok-skip_rows.ensures.rows in
    rw (loaded-rest c.args.bytes.now c.args.schema.now c.args.skip _ rest) c.load_rows.ensures.fault

pub returns-clause-each : goal.returns-clause-each
returns-clause-each c =
    IfOk-weaker c.load_rows.result _ _ (λ table h. loaded-each c.args.bytes.now c.args.schema.now c.args.skip table.records h) (returns-clause-records c)

pub returns-clause-first : goal.returns-clause-first
returns-clause-first c =
    MatchResult-weaker c.load_rows.result (returns-clause-fault c) (λ table h. h) (λ fault h. loaded-first c.args.bytes.now c.args.schema.now c.args.skip fault h)
