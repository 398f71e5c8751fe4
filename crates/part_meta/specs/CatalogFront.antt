-- What the first lines of a catalog say.
use Rattle.std.specs.Prelude.{ℕ, List, [], ◌∷◌, ◌++◌}
use Rattle.fb_types.specs.Schemas.{IsSchema}
use Rattle.part_meta.specs.CatalogText.{IsCatalog, catalog_lines, title_line, schema_line}
use Rattle.part_meta.specs.declared.catalog.Catalog.{Catalog}
use Rattle.part_meta.specs.declared.catalog_reading.CatalogFront.{CatalogFront}
use Rattle.part_meta.specs.declared.catalog_reading.CatalogFront.TheVariants.{Nothing, Title, Columns, Whole}

-- the lines themselves
abbrev pub front_lines : CatalogFront → List (List ℕ)
front_lines Nothing = []
front_lines Title = title_line ∷ []
front_lines (Columns schema) = title_line ∷ schema_line schema ∷ []
front_lines (Whole catalog) = catalog_lines catalog

abbrev pub IsFront : CatalogFront → Type 0
IsFront Nothing = Unit {0}
IsFront Title = Unit {0}
IsFront (Columns schema) = IsSchema schema
IsFront (Whole catalog) = IsCatalog catalog

-- the catalog with one more part
abbrev pub with_part : Catalog → ℕ → Catalog
with_part catalog part = record catalog { parts = catalog.parts ++ part ∷ [] }
