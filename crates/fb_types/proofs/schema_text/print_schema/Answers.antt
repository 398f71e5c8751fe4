use Rattle.std.proofs.Common.{◌≡◌, ◌≤◌, refl, length, ap, ◌∙◌}
use Rattle.std.proofs.lemmas.List.{take_all}
use Rattle.fb_types.specs.SchemaText.{read_schema, schema_text}
use Rattle.fb_types.proofs.SchemaLaws.{read_schema-schema_text}
use Rattle.fb_types.proofs.TextFacts.{join_step}
use Rattle.fb_types.proofs.schema_text.print_schema.Goals as goal

pub loop-at-preserved : goal.loop-at-preserved
loop-at-preserved c =
    rw (c.in_ok-push_column.ensures, c.in_ok-push_separator.ensures, c.loop-at.invariant, join_step c.columns-column-items.result.now c.loop-at.at c.column-item.result c.loop-at-test.true c.column-item.is) refl

pub returns-clause-reads_back : goal.returns-clause-reads_back
returns-clause-reads_back c =
    let all : length c.columns-column-items.result.now ≤ c.loop-at.at = c.loop-at-test.false in
    let text : c.from_vec.result ≡ schema_text c.args.schema.now =
    rw (c.from_vec.ensures, c.loop-at.invariant, take_all c.loop-at.at c.columns-column-items.result.now all, c.columns-column-items.ensures.value) refl in
    ap read_schema text ∙ read_schema-schema_text c.args.schema.now c.columns-column-items.ensures.valid
