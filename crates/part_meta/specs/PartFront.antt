-- What the first lines of a part's text say.
use Rattle.std.specs.Prelude.{◌≢◌, ◌≤◌, ◌<◌, ℕ, List, [], ◌∷◌, ◌++◌, length}
use Rattle.std.specs.List.{All, AllPairs, flat_map}
use Rattle.fb_types.specs.Names.{IsColumnName}
use Rattle.fb_types.specs.declared.schemas.Column.{Column}
use Rattle.part_meta.specs.PartText.{column_begin_line, column_lines, count_line, header_begin_line, header_lines, name_line, number_line, rows_line, type_line, most_rows}
use Rattle.part_meta.specs.declared.part_reading.Head.{Head}
use Rattle.part_meta.specs.declared.part_reading.Body.{Body}
use Rattle.part_meta.specs.declared.part_reading.Open.{Open}
use Rattle.part_meta.specs.declared.part_reading.Open.TheVariants as open_
use Rattle.part_meta.specs.declared.part_reading.PartFront.{PartFront}
use Rattle.part_meta.specs.declared.part_reading.PartFront.TheVariants as front

-- ---- the lines themselves

-- of a column that isn't at its end
abbrev pub open_lines : Open → List (List ℕ)
open_lines open_.Nothing = []
open_lines open_.Begun = column_begin_line ∷ []
open_lines (open_.Named name) = column_begin_line ∷ name_line name ∷ []
open_lines (open_.Typed column) = column_begin_line ∷ name_line column.name ∷ type_line column.ty ∷ []

abbrev pub head_lines : Head → List (List ℕ)
head_lines head = header_begin_line ∷ number_line head.number ∷ rows_line head.rows ∷ count_line head.count ∷ []

abbrev pub body_lines : Body → List (List ℕ)
body_lines body = header_lines body.head.number body.head.rows body.head.count ++ flat_map column_lines body.columns.items

abbrev pub front_lines : PartFront → List (List ℕ)
front_lines front.Nothing = []
front_lines front.Begun = header_begin_line ∷ []
front_lines (front.Numbered number) = header_begin_line ∷ number_line number ∷ []
front_lines (front.Counted number rows) = header_begin_line ∷ number_line number ∷ rows_line rows ∷ []
front_lines (front.Headed head) = head_lines head
front_lines (front.InColumns body column) = body_lines body ++ open_lines column

-- ---- what holds of it

pub record IsHead (head : Head) : Type 0 where
  pub number : head.number < 4096
  pub some_rows : 1 ≤ head.rows
  pub few_rows : head.rows ≤ most_rows
  pub some : 1 ≤ head.count
  pub few : head.count ≤ 255

-- columns with names, each another
pub record AreColumns (columns : List Column) : Type 0 where
  pub named : All (λ column. IsColumnName column.name) columns
  pub distinct : AllPairs (λ a b. a.name ≢ b.name) columns

-- a column of that name may follow
pub record Takes (body : Body) (name : List ℕ) : Type 0 where
  pub room : length body.columns.items < body.head.count
  pub named : IsColumnName name
  pub new : All (λ column. column.name ≢ name) body.columns.items

abbrev pub IsOpen : Body → Open → Type 0
IsOpen body open_.Nothing = length body.columns.items ≤ body.head.count
IsOpen body open_.Begun = length body.columns.items < body.head.count
IsOpen body (open_.Named name) = Takes body name
IsOpen body (open_.Typed column) = Takes body column.name

pub record IsBody (body : Body) : Type 0 where
  pub head : IsHead body.head
  pub columns : AreColumns body.columns.items

abbrev pub IsFront : PartFront → Type 0
IsFront front.Nothing = Unit {0}
IsFront front.Begun = Unit {0}
IsFront (front.Numbered number) = number < 4096
IsFront (front.Counted number rows) = (number < 4096) × (1 ≤ rows) × (rows ≤ most_rows)
IsFront (front.Headed head) = IsHead head
IsFront (front.InColumns body column) = IsBody body × IsOpen body column
