use Rattle.std.proofs.Common.{◌≡◌, ◌∙◌, List, ℕ, Ok, Err, subst, arith}
use Rattle.fb_types.specs.SchemaText.{SchemaFault, read_schema}
use Rattle.ardea.proofs.LoadLemmas.{rows_refused, schema_read, schema_refused}
use Rattle.ardea.proofs.reading.schema_of.Goals as goal

pub returns-in-Ok-parse_schema-clause-stop : goal.returns-in-Ok-parse_schema-clause-stop
returns-in-Ok-parse_schema-clause-stop c =
    let read : read_schema c.args.load.now.schema ≡ Ok c.in-Ok-parse_schema.field-0 =
    subst (λ (t : List ℕ). read_schema t ≡ Ok c.in-Ok-parse_schema.field-0) (c.in-Ok.ensures.cases.0 ∙ c.bytes.ensures) c.in-Ok-parse_schema.ensures.ok in
    rw c.over.ensures (rows_refused c.args.load.now c.in-Ok-parse_schema.field-0 read (omega arith))

pub returns-in-Ok-2-clause-ok : goal.returns-in-Ok-2-clause-ok
returns-in-Ok-2-clause-ok c =
    let read : read_schema c.args.load.now.schema ≡ Ok c.in-Ok-parse_schema.field-0 =
    subst (λ (t : List ℕ). read_schema t ≡ Ok c.in-Ok-parse_schema.field-0) (c.in-Ok.ensures.cases.0 ∙ c.bytes.ensures) c.in-Ok-parse_schema.ensures.ok in
    schema_read c.args.load.now c.in-Ok-parse_schema.field-0 read (omega arith)

pub returns-in-Err-Bad-clause-stop : goal.returns-in-Err-Bad-clause-stop
returns-in-Err-Bad-clause-stop c =
    let fault : SchemaFault = record { column = c.in-Err-Bad.column; kind = c.in-Err-Bad.kind } in
    schema_refused c.args.load.now fault
    (subst (λ (t : List ℕ). read_schema t ≡ Err fault) (c.in-Ok.ensures.cases.0 ∙ c.bytes.ensures) (rw c.in-Err-Bad.field-0-is at c.in-Err-Bad.ensures.bad))
