-- Which cells a column of a type takes, and which records a schema.
use Rattle.std.specs.Prelude.{◌≤◌, ◌≤ℤ◌, List, [], ◌∷◌, length, MatchOption}
use Rattle.fb_types.specs.declared.types.ColType.{ColType}
use Rattle.fb_types.specs.declared.cells.Cell.{Cell}
use Rattle.fb_types.specs.declared.cells.Cell.TheVariants.{Null, Whole, Word}
use Rattle.fb_types.specs.declared.schemas.Column.{Column}
use Rattle.fb_types.specs.Types.{ends_of}

-- null fits every column, a number a whole column whose ends it keeps to,
-- a word of 1 to 65,535 bytes a category or text column
abbrev pub CellFits : Cell → ColType → Type 0
CellFits Null ty = Unit {0}
CellFits (Whole number) ty = MatchOption (ends_of ty) ⊥ (λ ends. (ends.0 ≤ℤ number) × (number ≤ℤ ends.1))
CellFits (Word word) ty = MatchOption (ends_of ty) ((1 ≤ length word) × (length word ≤ 65535)) (λ _. ⊥)

-- one cell for each column, in order
abbrev pub RecordFits : List Cell → List Column → Type 0
RecordFits [] [] = Unit {0}
RecordFits [] (column ∷ columns) = ⊥
RecordFits (cell ∷ cells) [] = ⊥
RecordFits (cell ∷ cells) (column ∷ columns) = CellFits cell column.ty × RecordFits cells columns
