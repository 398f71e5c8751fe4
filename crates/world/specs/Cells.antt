-- What the cells of a column leave in its files: which rows have one, their numbers, their words.
use Rattle.std.specs.Prelude.{ℕ, ℤ, pos, Bool, true, false, List, [], map, Option, Some, None, unwrap_or, slice_index_or}
use Rattle.std.specs.List.{filter_map}
use Rattle.fb_types.specs.declared.cells.Cell.{Cell}
use Rattle.fb_types.specs.declared.cells.Cell.TheVariants.{Null, Whole, Word}
use Rattle.fb_types.specs.declared.types.ColType.{ColType}
use Rattle.fb_types.specs.declared.types.ColType.TheVariants.{Byte, UByte, Short, UShort, Int, UInt, Long, ULong, Category, Text}
use Rattle.text_column.specs.Words.{code_in, first_seen}

-- a column of the records, from the top
abbrev pub column_cells : ℕ → List (List Cell) → List Cell
column_cells col records = map (λ cells. slice_index_or cells col Null) records

abbrev pub is_present : Cell → Bool
is_present Null = false
is_present (Whole number) = true
is_present (Word word) = true

-- a whole column's number; 0 where the cell has none
abbrev pub number_of : Cell → ℤ
number_of Null = pos 0
number_of (Whole number) = number
number_of (Word word) = pos 0

abbrev pub word_of : Cell → Option (List ℕ)
word_of Null = None
word_of (Whole number) = None
word_of (Word word) = Some word

-- a category's number: the code of its word, counted from 1; 0 where the cell has none
abbrev pub code_of : List (List ℕ) → Cell → ℤ
code_of words Null = pos 0
code_of words (Whole number) = pos 0
code_of words (Word word) = pos (unwrap_or (code_in words word) 0)

-- the words of a category's cells in the order in which they are first seen
abbrev pub dictionary_of : List Cell → List (List ℕ)
dictionary_of cells = first_seen (filter_map word_of cells)

-- the texts of a text column, empty where a cell has none
abbrev pub texts_of : List Cell → List (List ℕ)
texts_of cells = map (λ cell. unwrap_or (word_of cell) []) cells

-- the numbers that a column keeps for its cells: a category's are the codes of its words, and a text column has none
abbrev pub stored_numbers : ColType → List Cell → List ℤ
stored_numbers Byte cells = map number_of cells
stored_numbers UByte cells = map number_of cells
stored_numbers Short cells = map number_of cells
stored_numbers UShort cells = map number_of cells
stored_numbers Int cells = map number_of cells
stored_numbers UInt cells = map number_of cells
stored_numbers Long cells = map number_of cells
stored_numbers ULong cells = map number_of cells
stored_numbers Category cells = map (code_of (dictionary_of cells)) cells
stored_numbers Text cells = []
