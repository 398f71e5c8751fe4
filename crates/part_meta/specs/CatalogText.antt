-- The text of a catalog.
use Rattle.std.specs.Prelude.{◌≤◌, ◌<◌, ℕ, List, ◌∷◌, ◌++◌, length, map, decimal}
use Rattle.std.specs.List.{All, AllPairs}
use lib.Chars.{codes}
use Rattle.fb_types.specs.declared.schemas.Column.{Column}
use Rattle.fb_types.specs.Schemas.{IsSchema}
use Rattle.fb_types.specs.SchemaText.{schema_text}
use Rattle.part_meta.specs.Lines.{line, joined}
use Rattle.part_meta.specs.declared.catalog.Catalog.{Catalog}

-- What a catalog may say: at most 1,024 parts, in rising order, each below the number that the next part gets.
pub record IsCatalog (catalog : Catalog) : Type 0 where
  pub schema : IsSchema catalog.schema
  pub next : catalog.next ≤ 4096
  pub few : length catalog.parts ≤ 1024
  pub rising : AllPairs (λ a b. a < b) catalog.parts
  pub below : All (λ part. part < catalog.next) catalog.parts

unfoldable pub title_line : List ℕ
title_line = line (codes "fastbit catalog 1")

unfoldable pub schema_line : List Column → List ℕ
schema_line schema = line (codes "schema " ++ schema_text schema)

unfoldable pub next_line : ℕ → List ℕ
next_line next = line (codes "next " ++ decimal next)

unfoldable pub part_line : ℕ → List ℕ
part_line number = line (codes "part " ++ decimal number)

abbrev pub catalog_lines : Catalog → List (List ℕ)
catalog_lines catalog = title_line ∷ schema_line catalog.schema ∷ next_line catalog.next ∷ map part_line catalog.parts

unfoldable pub catalog_text : Catalog → List ℕ
catalog_text catalog = joined (catalog_lines catalog)
