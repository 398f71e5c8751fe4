-- Schemas: columns with distinct names.
use Rattle.std.specs.Prelude.{◌≢◌, ℕ, ◌≤◌, Option, List, length}
use Rattle.std.specs.List.{All, AllPairs, position}
use Rattle.std.specs.Str.{bytes_eq}
use Rattle.fb_types.specs.declared.schemas.Column.{Column}
use Rattle.fb_types.specs.Names.{IsColumnName}

-- 1 to 255 columns with distinct column names
pub record IsSchema (columns : List Column) : Type 0 where
  pub some : 1 ≤ length columns
  pub few : length columns ≤ 255
  pub named : All (λ column. IsColumnName column.name) columns
  pub distinct : AllPairs (λ a b. a.name ≢ b.name) columns

-- the place of the column of that name, from 0
abbrev pub place_of : List Column → List ℕ → Option ℕ
place_of columns name = position (λ column. bytes_eq column.name name) columns
