use Rattle.std.proofs.Common.{◌≡◌, ◌≢◌, ◌∷◌, [], ℕ, ◌++◌, List, MatchOption, Option, Some, None, codes, subst, sym, ap, ◌∙◌}
use Rattle.std.proofs.lemmas.List.{append_cancel_left}
use Rattle.fb_types.specs.Schemas.{IsSchema}
use Rattle.fb_types.specs.SchemaText.{schema_text}
use Rattle.fb_types.specs.declared.schemas.Column.{Column}
use Rattle.part_meta.specs.CatalogText.{schema_line, title_line}
use Rattle.part_meta.specs.Lines.{line}
use Rattle.part_meta.proofs.CatalogLemmas.{is_schema}
use Rattle.part_meta.proofs.catalog_reading.with_schema.Goals as goal

pub returns-in-None : goal.returns-in-None
returns-in-None c = λ b. c.in-None.ensures (schema_text b.value.schema) (is_schema c.args.text.now b)

abbrev Found : List ℕ → Option (List Column) → Type 0
Found printed r = MatchOption r ((schema : List Column) → IsSchema schema → printed ≢ schema_text schema) (λ schema. IsSchema schema × (printed ≡ schema_text schema))

pub returns-in-None-2 : goal.returns-in-None-2
returns-in-None-2 c = λ b.
    let none : Found c.in-Some.printed.now None = subst (Found c.in-Some.printed.now) c.in-None-2.is c.in_ok-printed_schema-in-Some.ensures in
    none b.value.schema b.valid.schema
    (append_cancel_left (codes "schema ") c.in-Some.printed.now (schema_text b.value.schema) (sym c.in-Some.ensures ∙ is_schema c.args.text.now b))

pub returns-in-Some-2 : goal.returns-in-Some-2
unfolding schema_line
returns-in-Some-2 c =
    let found : Found c.in-Some.printed.now (Some c.in-Some-2.schema) = subst (Found c.in-Some.printed.now) c.in-Some-2.is c.in_ok-printed_schema-in-Some.ensures in
    let text : c.args.text.now ≡ codes "schema " ++ schema_text c.in-Some-2.schema = c.in-Some.ensures ∙ ap (λ t. codes "schema " ++ t) found.1 in
    (found.0, ap (λ t. title_line ∷ line t ∷ []) (sym text))
