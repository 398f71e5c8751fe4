use Rattle.std.proofs.Common.{◌≡◌, ◌++◌, decimal, refl}
use Rattle.std.specs.List.{flat_map}
use lib.Chars.{codes}
use Rattle.fb_types.specs.SchemaText.{schema_text}
use Rattle.part_meta.specs.CatalogText.{catalog_text, next_line, part_line, schema_line, title_line}
use Rattle.part_meta.specs.Lines.{line}
use Rattle.part_meta.proofs.LineLemmas.{catalog-joined, joined-map}
use Rattle.part_meta.proofs.catalog.print_catalog.Goals as goal

pub returns : goal.returns
unfolding catalog_text title_line schema_line next_line
returns c =
    let schema : c.bytes.result.now ≡ schema_text c.args.catalog.now.schema =
    cc (c.bytes.ensures, c.in_ok-schema.ensures.text) in
    let numbers : c.as_bytes.result.now ≡ line (codes "next " ++ decimal c.args.catalog.now.next) ++ flat_map part_line c.args.catalog.now.parts =
    rw (c.as_bytes.ensures.value, c.in_ok-numbers.ensures, c.as_slice.ensures) refl in
    let text : c.in_ok-text.text.items ≡ line (codes "fastbit catalog 1") ++ codes "schema " = c.in_ok-text.ensures.items in
    rw (c.in_ok-extend_from_slice-2.ensures.items, c.in_ok-push.ensures.items, c.in_ok-extend_from_slice.ensures.items, text, schema, numbers, joined-map part_line c.args.catalog.now.parts)
    (catalog-joined (line (codes "fastbit catalog 1")) (codes "schema ") (schema_text c.args.catalog.now.schema) (line (codes "next " ++ decimal c.args.catalog.now.next)) (flat_map part_line c.args.catalog.now.parts))
