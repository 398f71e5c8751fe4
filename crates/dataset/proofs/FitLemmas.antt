-- The numbers that a column keeps are numbers of its type.
use Rattle.std.proofs.Common.{◌≡◌, ◌+◌, ◌<◌, ◌≤◌, ℕ, zero, suc, ℤ, pos, ◌≤ℤ◌, List, [], ◌∷◌, length, map, Option, Some, None, MatchOption, option_map, unwrap_or, refl, subst, arith}
use Rattle.std.specs.List.{All, AllByRecursion, filter_map, position, slice_get}
use Rattle.std.specs.Prelude.{slice_index_or}
use Rattle.std.specs.Str.{bytes_eq}
use Rattle.std.proofs.lemmas.Int.{ints}
use Rattle.std.proofs.lemmas.List.Elements.{All-head, All-map, All-nil, All-tail, All-weaker}
use Rattle.std.proofs.lemmas.List.Quantifiers.{position-Some}
use Rattle.fb_types.specs.declared.cells.Cell.{Cell}
use Rattle.fb_types.specs.declared.cells.Cell.TheVariants.{Null, Whole, Word}
use Rattle.fb_types.specs.declared.schemas.Column.{Column}
use Rattle.fb_types.specs.declared.types.ColType.{ColType}
use Rattle.fb_types.specs.declared.types.ColType.TheVariants.{Byte, UByte, Short, UShort, Int, UInt, Long, ULong, Category, Text}
use Rattle.fb_types.specs.Cells.{CellFits, RecordFits}
use Rattle.fb_types.specs.Types.{ends_of, unsigned_ends}
use Rattle.column_file.specs.Values.{ValueFits}
use Rattle.text_column.specs.Words.{IsDictionary, IsWord, code_in}
use Rattle.text_column.proofs.DictionaryLemmas.{seen_dictionary}
use Rattle.world.specs.Cells.{code_of, column_cells, dictionary_of, number_of, stored_numbers, word_of}

-- ---- the cells of a column

record_fit : (cells : List Cell) (schema : List Column) (col : ℕ) (column : Column) → RecordFits cells schema → slice_get schema col ≡ Some column
    → CellFits (slice_index_or cells col Null) column.ty
record_fit [] [] col column h e = absurd (cc)
record_fit [] (c ∷ cs) col column h e = absurd h
record_fit (cell ∷ cells) [] col column h e = absurd h
record_fit (cell ∷ cells) (c ∷ cs) zero column h e =
    let same : c ≡ column = cc in subst (λ (k : Column). CellFits cell k.ty) same h.0
record_fit (cell ∷ cells) (c ∷ cs) (suc col) column h e = record_fit cells cs col column h.1 e

pub cells_fit : (records : List (List Cell)) (schema : List Column) (col : ℕ) (column : Column) → All (λ cells. RecordFits cells schema) records
    → slice_get schema col ≡ Some column → All (λ cell. CellFits cell column.ty) (column_cells col records)
cells_fit records schema col column h e =
    All-map (λ cell. CellFits cell column.ty) (λ (cells : List Cell). slice_index_or cells col Null) records
    (All-weaker (λ cells. RecordFits cells schema) (λ cells. CellFits (slice_index_or cells col Null) column.ty)
    (λ cells fits. record_fit cells schema col column fits e) records h)

-- ---- whole numbers

zero_fits : (ty : ColType) → ValueFits (pos 0) ty
zero_fits Byte = (omega (arith, ints), omega (arith, ints))
zero_fits UByte = (omega (arith, ints), omega (arith, ints))
zero_fits Short = (omega (arith, ints), omega (arith, ints))
zero_fits UShort = (omega (arith, ints), omega (arith, ints))
zero_fits Int = (omega (arith, ints), omega (arith, ints))
zero_fits UInt = (omega (arith, ints), omega (arith, ints))
zero_fits Long = (omega (arith, ints), omega (arith, ints))
zero_fits ULong = (omega (arith, ints), omega (arith, ints))
zero_fits Category = (omega (arith, ints), omega (arith, ints))
zero_fits Text = (omega (arith, ints), omega (arith, ints))

within : (o : Option (ℤ × ℤ)) (number : ℤ) → MatchOption o ⊥ (λ ends. (ends.0 ≤ℤ number) × (number ≤ℤ ends.1))
    → ((unwrap_or o (unsigned_ends 32)).0 ≤ℤ number) × (number ≤ℤ (unwrap_or o (unsigned_ends 32)).1)
within None number h = absurd h
within (Some ends) number h = h

number_fits : (ty : ColType) (cell : Cell) → CellFits cell ty → ValueFits (number_of cell) ty
number_fits ty Null h = zero_fits ty
number_fits ty (Whole number) h = within (ends_of ty) number h
number_fits ty (Word word) h = zero_fits ty

whole_fit : (ty : ColType) (cells : List Cell) → All (λ cell. CellFits cell ty) cells → All (λ value. ValueFits value ty) (map number_of cells)
whole_fit ty cells h =
    All-map (λ value. ValueFits value ty) number_of cells
    (All-weaker (λ cell. CellFits cell ty) (λ cell. ValueFits (number_of cell) ty) (number_fits ty) cells h)

-- ---- codes of a category

words_few : (cells : List Cell) → length (filter_map word_of cells) ≤ length cells
words_few [] = omega arith
words_few (Null ∷ cells) = omega (arith, words_few cells)
words_few (Whole number ∷ cells) = omega (arith, words_few cells)
words_few (Word word ∷ cells) = omega (arith, words_few cells)

are_words : (cells : List Cell) → All (λ cell. CellFits cell Category) cells → AllByRecursion IsWord (filter_map word_of cells)
are_words [] h = tt
are_words (Null ∷ cells) h = are_words cells (All-tail (λ cell. CellFits cell Category) Null cells h)
are_words (Whole number ∷ cells) h = are_words cells (All-tail (λ cell. CellFits cell Category) (Whole number) cells h)
are_words (Word word ∷ cells) h =
    (All-head (λ cell. CellFits cell Category) (Word word) cells h, are_words cells (All-tail (λ cell. CellFits cell Category) (Word word) cells h))

code_within : (words : List (List ℕ)) (word : List ℕ) (o : Option ℕ) → position (bytes_eq word) words ≡ o
    → unwrap_or (option_map (λ place. place + 1) o) 0 ≤ length words
code_within words word None e = omega arith
code_within words word (Some place) e =
    let less : place < length words = (position-Some (bytes_eq word) words place [] e).0 in omega arith

small_fits : (n : ℕ) → n ≤ 4194304 → ValueFits (pos n) Category
small_fits n h = (omega (arith, ints), omega (arith, ints))

code_fits : (words : List (List ℕ)) → length words ≤ 4194304 → (cell : Cell) → ValueFits (code_of words cell) Category
code_fits words few Null = zero_fits Category
code_fits words few (Whole number) = zero_fits Category
code_fits words few (Word word) =
    let within : unwrap_or (code_in words word) 0 ≤ length words = code_within words word (position (bytes_eq word) words) refl in
    small_fits (unwrap_or (code_in words word) 0) (omega arith)

pub category_words : (cells : List Cell) → length cells ≤ 4194304 → All (λ cell. CellFits cell Category) cells → IsDictionary (dictionary_of cells)
category_words cells few h = seen_dictionary (filter_map word_of cells) (are_words cells h) (omega (arith, words_few cells))

category_fit : (cells : List Cell) → length cells ≤ 4194304 → All (λ cell. CellFits cell Category) cells
    → All (λ value. ValueFits value Category) (map (code_of (dictionary_of cells)) cells)
category_fit cells few h =
    let dictionary = category_words cells few h in
    All-map (λ value. ValueFits value Category) (code_of (dictionary_of cells)) cells (λ i d less. code_fits (dictionary_of cells) dictionary.few _)

-- ---- all types

pub stored_fit : (ty : ColType) (cells : List Cell) → length cells ≤ 4194304 → All (λ cell. CellFits cell ty) cells
    → All (λ value. ValueFits value ty) (stored_numbers ty cells)
stored_fit Byte cells few h = whole_fit Byte cells h
stored_fit UByte cells few h = whole_fit UByte cells h
stored_fit Short cells few h = whole_fit Short cells h
stored_fit UShort cells few h = whole_fit UShort cells h
stored_fit Int cells few h = whole_fit Int cells h
stored_fit UInt cells few h = whole_fit UInt cells h
stored_fit Long cells few h = whole_fit Long cells h
stored_fit ULong cells few h = whole_fit ULong cells h
stored_fit Category cells few h = category_fit cells few h
stored_fit Text cells few h = All-nil (λ value. ValueFits value Text)
