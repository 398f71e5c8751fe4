-- The text of rows.
use Rattle.std.specs.Prelude.{ℕ, List, [], ◌∷◌, ◌++◌, map}
use Rattle.std.specs.Fmt.{signed_decimal}
use Rattle.csv.specs.Writing.{default_writer, row_text}
use Rattle.fb_types.specs.declared.cells.Cell.{Cell}
use Rattle.fb_types.specs.declared.cells.Cell.TheVariants.{Null, Whole, Word}

-- null is an empty field, a number stands in decimal, a word as its bytes
abbrev pub cell_text : Cell → List ℕ
cell_text Null = []
cell_text (Whole n) = signed_decimal n
cell_text (Word w) = w

-- the text of the rows, one after the other, as records of CSV
abbrev pub rows_text : List (List Cell) → List ℕ
rows_text [] = []
rows_text (row ∷ rows) = row_text default_writer (map cell_text row) ++ rows_text rows
