-- The text of a part.
use Rattle.std.specs.Prelude.{◌≤◌, ◌<◌, ℕ, List, [], ◌∷◌, ◌++◌, length, decimal}
use Rattle.std.specs.List.{flat_map}
use lib.Chars.{codes}
use Rattle.fb_types.specs.Schemas.{IsSchema}
use Rattle.fb_types.specs.Types.{type_name}
use Rattle.fb_types.specs.declared.schemas.Column.{Column}
use Rattle.fb_types.specs.declared.types.ColType.{ColType}
use Rattle.part_meta.specs.FileNames.{folder_name}
use Rattle.part_meta.specs.Lines.{line, joined}
use Rattle.part_meta.specs.declared.part.PartMeta.{PartMeta}

-- the most rows of a part
abbrev pub most_rows : ℕ
most_rows = 4194304

-- what a part's text may say
pub record IsPart (part : PartMeta) : Type 0 where
  pub number : part.number < 4096
  pub some : 1 ≤ part.rows
  pub few : part.rows ≤ most_rows
  pub schema : IsSchema part.schema

-- ---- the lines of a column

unfoldable pub column_begin_line : List ℕ
column_begin_line = line (codes "Begin Column")

unfoldable pub name_line : List ℕ → List ℕ
name_line name = line (codes "name = " ++ name)

unfoldable pub type_line : ColType → List ℕ
type_line ty = line (codes "data_type = " ++ type_name ty)

unfoldable pub column_end_line : List ℕ
column_end_line = line (codes "End Column")

abbrev pub column_lines : Column → List (List ℕ)
column_lines column = column_begin_line ∷ name_line column.name ∷ type_line column.ty ∷ column_end_line ∷ []

-- ---- and of a part

unfoldable pub header_begin_line : List ℕ
header_begin_line = line (codes "BEGIN HEADER")

unfoldable pub number_line : ℕ → List ℕ
number_line number = line (codes "Name = " ++ folder_name number)

unfoldable pub rows_line : ℕ → List ℕ
rows_line rows = line (codes "Number_of_rows = " ++ decimal rows)

unfoldable pub count_line : ℕ → List ℕ
count_line count = line (codes "Number_of_columns = " ++ decimal count)

unfoldable pub header_end_line : List ℕ
header_end_line = line (codes "END HEADER")

abbrev pub header_lines : ℕ → ℕ → ℕ → List (List ℕ)
header_lines number rows count =
    header_begin_line ∷ number_line number ∷ rows_line rows ∷ count_line count ∷ header_end_line ∷ []

abbrev pub part_lines : PartMeta → List (List ℕ)
part_lines part = header_lines part.number part.rows (length part.schema) ++ flat_map column_lines part.schema

unfoldable pub part_text : PartMeta → List ℕ
part_text part = joined (part_lines part)
