use Rattle.std.proofs.Common.{◌≡◌, ◌∙◌, Err, List, ℕ, IsUtf8, true, sym, ap, subst}
use Rattle.std.proofs.lemmas.Bool.Decides.{Decides-eqb}
use Rattle.std.proofs.lemmas.Slice.Eq.{slice_eq-Decides}
use Rattle.std.proofs.lemmas.Str.{IsUtf8-from_ascii}
use Rattle.fb_types.specs.SchemaText.{AreRead, Spells, schema_text}
use Rattle.fb_types.specs.declared.schema_text.MetaFault.{MetaFault}
use Rattle.part_meta.proofs.PlainLemmas.{plain_ascii, plain_schema}
use Rattle.fb_types.proofs.SchemaLaws.{schema_text-spells}
use Rattle.part_meta.proofs.catalog_reading.printed_schema.Goals as goal

pub returns-in_default : goal.returns-in_default
returns-in_default c = λ schema valid is.
    c.in_default.ensures.cases.0 (subst IsUtf8 (sym is) (IsUtf8-from_ascii (schema_text schema) (plain_ascii (schema_text schema) (plain_schema schema valid))))

pub returns-in-Err-Bad : goal.returns-in-Err-Bad
returns-in-Err-Bad c = λ schema valid is.
    let P : List ℕ → Type 0 = λ t. Spells t schema in
    let Q : MetaFault → Type 0 = λ e. AreRead schema (Err e) in
    subst Q c.in-Err-Bad.field-0-is (c.in-Err-Bad.ensures.only schema valid (subst P (sym (c.in-Ok.ensures.cases.0 ∙ is)) (schema_text-spells schema valid)))

pub returns-else-eq : goal.returns-else-eq
returns-else-eq c = λ schema valid is.
    let P : List ℕ → Type 0 = λ t. Spells t schema in
    let same : c.in-Ok-parse_schema.schema ≡ schema = c.in-Ok-parse_schema.ensures.only schema valid (subst P (sym (c.in-Ok.ensures.cases.0 ∙ is)) (schema_text-spells schema valid)) in
    let printed : c.bytes-2.result.now ≡ c.args.bytes.now = c.bytes-2.ensures ∙ c.in_ok-print_schema.ensures.text ∙ ap schema_text same ∙ sym is in
    let equal : c.eq.result ≡ true = (slice_eq-Decides Decides-eqb c.bytes-2.result.now c.args.bytes.now c.eq.result c.eq.ensures).1 printed in
    absurd (cc (equal, c.if-eq.false))
