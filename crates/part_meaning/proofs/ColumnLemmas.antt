-- The cells of a part's columns, and the bins that have them.
use Rattle.std.proofs.Common.{◌≡◌, ℕ, zero, suc, ◌≤◌, true, false, List, [], ◌∷◌, All, length, get_or, map, MatchOption, Option, Some, None, IsSome, unwrap_or, ℤ, pos, ◌≤ℤ◌, refl, sym, ap, subst, ◌∙◌, arith}
use Rattle.std.proofs.lemmas.Int.{ints}
use Rattle.std.proofs.lemmas.List.Elements.{All-head, All-tail}
use Rattle.std.proofs.lemmas.Option.{get_or_from_slice_get}
use Rattle.std.proofs.Math.ListN.{get_or-map}
use Rattle.fb_types.specs.declared.cells.Cell.{Cell}
use Rattle.fb_types.specs.declared.cells.Cell.TheVariants.{Null, Whole, Word}
use Rattle.fb_types.specs.declared.schemas.Column.{Column}
use Rattle.fb_types.specs.declared.types.ColType.{ColType}
use Rattle.fb_types.specs.declared.types.ColType.TheVariants.{Byte, UByte, Short, UShort, Int, UInt, Long, ULong, Category, Text}
use Rattle.fb_types.specs.Cells.{CellFits, RecordFits}
use Rattle.fb_types.specs.Types.{ends_of, width_of}
use Rattle.index_spec.specs.declared.spec.Spec.{Spec}
use Rattle.binning.specs.Bins.{cells}
use Rattle.text_column.specs.Words.{code_in}
use Rattle.where_plan.specs.SpansOf.{code_range}
use Rattle.where_plan.specs.PlanHolds.{cell_at}
use Rattle.world.specs.Cells.{code_of, dictionary_of, is_present, number_of, stored_numbers}
use Rattle.world.specs.IndexFiles.{keys_by}
use Rattle.world.specs.World.{IsPartition, Partition}
use Rattle.bin_answers.specs.Bins.{bin_at}
use Rattle.part_meaning.specs.Columns.{PartColumn, bins_in, bins_under, cell_of_row, column_at, ends_in, ends_or, no_column, number_of_row}
use Rattle.part_meaning.proofs.BinLemmas.{HasRow, keyed_none, keyed_row, one_none, one_row}
use Rattle.part_meaning.proofs.CodeLemmas.{code_within, row_coded}

-- ---- the number of a cell

-- its own, or the code of its word
unfoldable pub number_by : Option (ℤ × ℤ) → List (List ℕ) → Cell → ℤ
number_by None words = code_of words
number_by (Some ends) words = number_of

null_number : (o : Option (ℤ × ℤ)) (words : List (List ℕ)) → number_by o words Null ≡ pos 0
unfolding number_by
null_number None words = refl
null_number (Some ends) words = refl

pub stored_by : (ty : ColType) (column : List Cell) → IsSome (width_of ty) → stored_numbers ty column ≡ map (number_by (ends_of ty) (dictionary_of column)) column
unfolding number_by
stored_by Byte column some = refl
stored_by UByte column some = refl
stored_by Short column some = refl
stored_by UShort column some = refl
stored_by Int column some = refl
stored_by UInt column some = refl
stored_by Long column some = refl
stored_by ULong column some = refl
stored_by Category column some = refl
stored_by Text column some = absurd cc

-- the number of a row's cell
number_at : (ty : ColType) (column : List Cell) (row : ℕ) → IsSome (width_of ty)
    → get_or (stored_numbers ty column) row (pos 0) ≡ number_by (ends_of ty) (dictionary_of column) (get_or column row Null)
number_at ty column row some =
    let f = number_by (ends_of ty) (dictionary_of column) in
    ap (λ ns. get_or ns row (pos 0)) (stored_by ty column some)
    ∙ ap (get_or (map f column) row) (sym (null_number (ends_of ty) (dictionary_of column)))
    ∙ get_or-map f column row Null

-- ---- cells with a number, where the mask is true

number_if : (Cell → ℤ) → Cell → Option ℤ
number_if f Null = None
number_if f (Whole n) = Some (f (Whole n))
number_if f (Word word) = Some (f (Word word))

numbers_if : (f : Cell → ℤ) (column : List Cell) → cells (map is_present column) (map f column) ≡ map (number_if f) column
unfolding number_if
numbers_if f [] = refl
numbers_if f (Null ∷ column) = ap (λ xs. None ∷ xs) (numbers_if f column)
numbers_if f (Whole n ∷ column) = ap (λ xs. Some (f (Whole n)) ∷ xs) (numbers_if f column)
numbers_if f (Word word ∷ column) = ap (λ xs. Some (f (Word word)) ∷ xs) (numbers_if f column)

there_if : (f : Cell → ℤ) (cell : Cell) → is_present cell ≡ true → number_if f cell ≡ Some (f cell)
unfolding number_if
there_if f Null h = absurd cc
there_if f (Whole n) h = refl
there_if f (Word word) h = refl

none_if : (f : Cell → ℤ) (cell : Cell) → is_present cell ≡ false → number_if f cell ≡ None
unfolding number_if
none_if f Null h = refl
none_if f (Whole n) h = absurd cc
none_if f (Word word) h = absurd cc

stored_if : (ty : ColType) (column : List Cell) (row : ℕ) → IsSome (width_of ty)
    → get_or (cells (map is_present column) (stored_numbers ty column)) row None
    ≡ number_if (number_by (ends_of ty) (dictionary_of column)) (get_or column row Null)
unfolding number_if
stored_if ty column row some =
    let f = number_by (ends_of ty) (dictionary_of column) in
    ap (λ ns. get_or (cells (map is_present column) ns) row None) (stored_by ty column some)
    ∙ ap (λ cs. get_or cs row None) (numbers_if f column)
    ∙ get_or-map (number_if f) column row Null

present_at : (column : List Cell) (row : ℕ) → get_or (map is_present column) row false ≡ is_present (get_or column row Null)
present_at column row = get_or-map is_present column row Null

-- ---- numbers between the ends of their type

within_ends : (ty : ColType) (column : List Cell) (row : ℕ) → CellFits (get_or column row Null) ty → is_present (get_or column row Null) ≡ true
    → ((ends_in ty column).least ≤ℤ number_by (ends_of ty) (dictionary_of column) (get_or column row Null))
    × (number_by (ends_of ty) (dictionary_of column) (get_or column row Null) ≤ℤ (ends_in ty column).greatest)
unfolding ends_in number_by
within_ends ty column row fits there = by (ends_of ty) (get_or column row Null) refl (as_in (get_or column row Null) fits) there
  where
    words : List (List ℕ)
    words = dictionary_of column

    FitsIn : Option (ℤ × ℤ) → Cell → Type 0
    FitsIn o Null = Unit {0}
    FitsIn o (Whole n) = MatchOption o ⊥ (λ ends. (ends.0 ≤ℤ n) × (n ≤ℤ ends.1))
    FitsIn o (Word word) = MatchOption o ((1 ≤ length word) × (length word ≤ 65535)) (λ _. ⊥)

    as_in : (cell : Cell) → CellFits cell ty → FitsIn (ends_of ty) cell
    as_in Null h = tt
    as_in (Whole n) h = h
    as_in (Word word) h = h

    coded : (word : List ℕ) → get_or column row Null ≡ Word word
        → (pos 1 ≤ℤ pos (unwrap_or (code_in words word) 0)) × (pos (unwrap_or (code_in words word) 0) ≤ℤ pos (length words))
    coded word e =
        let c = row_coded column row word e in
        let w = code_within words word c.code c.is in
        let same : unwrap_or (code_in words word) 0 ≡ c.code = ap (λ o. unwrap_or o 0) c.is in
        (omega (arith, ints, w.0, same), omega (arith, ints, w.1, same))

    by : (o : Option (ℤ × ℤ)) (cell : Cell) → get_or column row Null ≡ cell → FitsIn o cell → is_present cell ≡ true
        → ((ends_or o (code_range words)).least ≤ℤ number_by o words cell) × (number_by o words cell ≤ℤ (ends_or o (code_range words)).greatest)
    by o Null e fit h = absurd cc
    by None (Whole n) e fit h = absurd fit
    by (Some ends) (Whole n) e fit h = fit
    by None (Word word) e fit h = coded word e
    by (Some ends) (Word word) e fit h = absurd fit

-- ---- the bins of a column

-- its cells fit its type, and it is indexed only where its values have a width
pub record IsColumn (column : PartColumn) : Type 0 where
  pub fits : (row : ℕ) → CellFits (cell_of_row column row) column.ty
  pub width : (spec : Spec) → column.spec ≡ Some spec → IsSome (width_of column.ty)

-- a bin has each row with a value, and the value's number lies between its ends
pub row_has : (column : PartColumn) (row : ℕ) → IsColumn column → is_present (cell_of_row column row) ≡ true
    → HasRow (bins_in column) row (number_by (ends_of column.ty) (dictionary_of column.cells) (cell_of_row column row))
unfolding bins_in
row_has column row is there = by column.spec refl
  where
    by : (spec : Option Spec) → column.spec ≡ spec
        → HasRow (bins_under spec column.ty column.cells) row (number_by (ends_of column.ty) (dictionary_of column.cells) (cell_of_row column row))
    by None e =
        let w = within_ends column.ty column.cells row (is.fits row) there in
        one_row (ends_in column.ty column.cells) (map is_present column.cells) row
        (number_by (ends_of column.ty) (dictionary_of column.cells) (cell_of_row column row))
        (present_at column.cells row ∙ there) w.0 w.1
    by (Some spec) e =
        let number = number_by (ends_of column.ty) (dictionary_of column.cells) in
        keyed_row (keys_by spec (map is_present column.cells) (stored_numbers column.ty column.cells))
        (cells (map is_present column.cells) (stored_numbers column.ty column.cells)) row (number (cell_of_row column row))
        (stored_if column.ty column.cells row (is.width spec e) ∙ there_if number (cell_of_row column row) there)

pub has_row : (column : PartColumn) (row : ℕ) → IsColumn column → IsSome (width_of column.ty) → is_present (cell_of_row column row) ≡ true
    → HasRow (bins_in column) row (number_of_row column row)
has_row column row is some there =
    subst (HasRow (bins_in column) row) (sym (number_at column.ty column.cells row some)) (row_has column row is there)

-- no bin has a row without one
pub no_row : (column : PartColumn) (row : ℕ) → IsColumn column → is_present (cell_of_row column row) ≡ false → bin_at row (bins_in column) ≡ None
unfolding bins_in
no_row column row is absent = by column.spec refl
  where
    by : (spec : Option Spec) → column.spec ≡ spec → bin_at row (bins_under spec column.ty column.cells) ≡ None
    by None e = one_none (ends_in column.ty column.cells) (map is_present column.cells) row (present_at column.cells row ∙ absent)
    by (Some spec) e =
        keyed_none (keys_by spec (map is_present column.cells) (stored_numbers column.ty column.cells))
        (cells (map is_present column.cells) (stored_numbers column.ty column.cells)) row
        (stored_if column.ty column.cells row (is.width spec e)
        ∙ none_if (number_by (ends_of column.ty) (dictionary_of column.cells)) (cell_of_row column row) absent)

-- ---- the columns of a part

record_fits : (record_cells : List Cell) (schema : List Column) (col : ℕ) → RecordFits record_cells schema
    → CellFits (get_or record_cells col Null) (get_or schema col no_column).ty
record_fits [] [] col h = tt
record_fits [] (column ∷ columns) col h = absurd h
record_fits (cell ∷ more) [] col h = absurd h
record_fits (cell ∷ more) (column ∷ columns) zero h = h.0
record_fits (cell ∷ more) (column ∷ columns) (suc col) h = record_fits more columns col h.1

pub cell_is : (schema : List Column) (part : Partition) (col row : ℕ) → cell_of_row (column_at schema part col) row ≡ cell_at (get_or part.records row []) col
unfolding column_at
cell_is schema part col row = get_or-map (λ (c : List Cell). get_or c col Null) part.records row []

cells_fit : (records : List (List Cell)) (schema : List Column) (col row : ℕ) → All (λ c. RecordFits c schema) records
    → CellFits (get_or (get_or records row []) col Null) (get_or schema col no_column).ty
cells_fit [] schema col row h = tt
cells_fit (first ∷ records) schema col zero h = record_fits first schema col (All-head (λ c. RecordFits c schema) first records h)
cells_fit (first ∷ records) schema col (suc row) h = cells_fit records schema col row (All-tail (λ c. RecordFits c schema) first records h)

pub is_column : (schema : List Column) (part : Partition) (col : ℕ) → IsPartition schema part → IsColumn (column_at schema part col)
unfolding column_at
is_column schema part col valid = record {
  fits = λ row. subst (λ cell. CellFits cell (get_or schema col no_column).ty) (sym (cell_is schema part col row)) (cells_fit part.records schema col row valid.fit);
  width = λ spec e. let can = valid.indexed col spec e in
      subst (λ (column : Column). IsSome (width_of column.ty)) (sym (get_or_from_slice_get schema col can.column no_column can.in_schema)) can.width;
}
