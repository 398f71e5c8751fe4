-- Cells in order, and the parts of a row.
use Rattle.std.specs.Prelude.{ℕ, Bool, List, [], ◌∷◌, Option, Some, None, ℤ}
use Rattle.std.specs.Ordering.{eq_by_cmp, int_cmp, nat_cmp}
use Rattle.std.specs.declared.cmp.Ordering.{Ordering}
use Rattle.std.specs.declared.cmp.Ordering.TheVariants.{Less, Equal, Greater}
use Rattle.std.specs.Cmp.Lexicographic.{slice_cmp}
use Rattle.fb_types.specs.declared.cells.Cell.{Cell}
use Rattle.fb_types.specs.declared.cells.Cell.TheVariants.{Null, Whole, Word}

-- ---- order

-- null first, then numbers by value, then words by their bytes
abbrev pub cell_cmp : Cell → Cell → Ordering
cell_cmp Null Null = Equal
cell_cmp Null (Whole n) = Less
cell_cmp Null (Word w) = Less
cell_cmp (Whole n) Null = Greater
cell_cmp (Whole n) (Whole m) = int_cmp n m
cell_cmp (Whole n) (Word w) = Less
cell_cmp (Word w) Null = Greater
cell_cmp (Word w) (Whole n) = Greater
cell_cmp (Word w) (Word v) = slice_cmp nat_cmp w v

-- cell by cell, the first two that differ decide
abbrev pub cells_cmp : List Cell → List Cell → Ordering
cells_cmp = slice_cmp cell_cmp

abbrev pub cells_eq : List Cell → List Cell → Bool
cells_eq = eq_by_cmp cells_cmp

-- ---- parts of a row

-- the first cell, and those behind it
abbrev pub first_cell : List Cell → Cell
first_cell [] = Null
first_cell (c ∷ cells) = c

abbrev pub other_cells : List Cell → List Cell
other_cells [] = []
other_cells (c ∷ cells) = cells

-- ---- numbers

-- the cell of a number, null where there is none
abbrev pub number_cell : Option ℤ → Cell
number_cell None = Null
number_cell (Some n) = Whole n
