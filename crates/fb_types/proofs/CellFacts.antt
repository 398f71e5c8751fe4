-- What a record that fits a schema is.
use Rattle.std.proofs.Common.{◌≡◌, ℕ, zero, suc, ◌<◌, List, [], ◌∷◌, ◌++◌, length, get_or, refl, ap, sym, subst, arith, Option, Some, None, Bor, IsSome, IsNone, MatchOption}
use Rattle.std.proofs.lemmas.Int.{ints}
use Rattle.std.specs.Option.{option_copied}
use Rattle.fb_types.specs.declared.cells.Cell.{Cell}
use Rattle.fb_types.specs.declared.cells.Cell.TheVariants.{Null, Whole, Word}
use Rattle.fb_types.specs.declared.types.ColType.{ColType}
use Rattle.fb_types.specs.declared.types.ColType.TheVariants.{Byte, UByte, Short, UShort, Int, UInt, Long, ULong, Category, Text}
use Rattle.fb_types.specs.declared.schemas.Column.{Column}
use Rattle.fb_types.specs.Cells.{CellFits, RecordFits}
use Rattle.fb_types.specs.Slots.{IsStorable, AllStorable, whole_in, word_in}
use Rattle.fb_types.specs.Table.{IsWholeColumn, IsWordColumn}
use Rattle.fb_types.specs.Types.{ends_of}

pub length-RecordFits : (cells : List Cell) (columns : List Column) → RecordFits cells columns → length cells ≡ length columns
length-RecordFits [] [] h = refl
length-RecordFits [] (column ∷ columns) h = absurd h
length-RecordFits (cell ∷ cells) [] h = absurd h
length-RecordFits (cell ∷ cells) (column ∷ columns) h = ap suc (length-RecordFits cells columns h.1)

IsStorable-fits : (cell : Cell) (ty : ColType) → CellFits cell ty → IsStorable cell
IsStorable-fits Null ty h = tt
IsStorable-fits (Whole number) Byte h = (omega (arith, ints, h.0), omega (arith, ints, h.1))
IsStorable-fits (Whole number) UByte h = (omega (arith, ints, h.0), omega (arith, ints, h.1))
IsStorable-fits (Whole number) Short h = (omega (arith, ints, h.0), omega (arith, ints, h.1))
IsStorable-fits (Whole number) UShort h = (omega (arith, ints, h.0), omega (arith, ints, h.1))
IsStorable-fits (Whole number) Int h = (omega (arith, ints, h.0), omega (arith, ints, h.1))
IsStorable-fits (Whole number) UInt h = (omega (arith, ints, h.0), omega (arith, ints, h.1))
IsStorable-fits (Whole number) Long h = (omega (arith, ints, h.0), omega (arith, ints, h.1))
IsStorable-fits (Whole number) ULong h = (omega (arith, ints, h.0), omega (arith, ints, h.1))
IsStorable-fits (Whole number) Category h = absurd h
IsStorable-fits (Whole number) Text h = absurd h
IsStorable-fits (Word word) Byte h = absurd h
IsStorable-fits (Word word) UByte h = absurd h
IsStorable-fits (Word word) Short h = absurd h
IsStorable-fits (Word word) UShort h = absurd h
IsStorable-fits (Word word) Int h = absurd h
IsStorable-fits (Word word) UInt h = absurd h
IsStorable-fits (Word word) Long h = absurd h
IsStorable-fits (Word word) ULong h = absurd h
IsStorable-fits (Word word) Category h = h.1
IsStorable-fits (Word word) Text h = h.1

pub AllStorable-fits : (cells : List Cell) (columns : List Column) → RecordFits cells columns → AllStorable cells
AllStorable-fits [] [] h = tt
AllStorable-fits [] (column ∷ columns) h = tt
AllStorable-fits (cell ∷ cells) [] h = absurd h
AllStorable-fits (cell ∷ cells) (column ∷ columns) h = (IsStorable-fits cell column.ty h.0, AllStorable-fits cells columns h.1)

-- a number or null stands in a whole column, a word or null in another
fit_whole : (cell : Cell) (ty : ColType) → CellFits cell ty → IsSome (ends_of ty) → MatchOption (whole_in cell) (cell ≡ Null) (λ number. cell ≡ Whole number)
fit_whole Null ty fits whole = refl
fit_whole (Whole number) ty fits whole = refl
fit_whole (Word word) Byte fits whole = absurd fits
fit_whole (Word word) UByte fits whole = absurd fits
fit_whole (Word word) Short fits whole = absurd fits
fit_whole (Word word) UShort fits whole = absurd fits
fit_whole (Word word) Int fits whole = absurd fits
fit_whole (Word word) UInt fits whole = absurd fits
fit_whole (Word word) Long fits whole = absurd fits
fit_whole (Word word) ULong fits whole = absurd fits
fit_whole (Word word) Category fits whole = cc
fit_whole (Word word) Text fits whole = cc

fit_word : (cell : Cell) (ty : ColType) → CellFits cell ty → IsNone (ends_of ty) → MatchOption (word_in cell) (cell ≡ Null) (λ word. cell ≡ Word word)
fit_word Null ty fits other = refl
fit_word (Word word) ty fits other = refl
fit_word (Whole number) Byte fits other = cc
fit_word (Whole number) UByte fits other = cc
fit_word (Whole number) Short fits other = cc
fit_word (Whole number) UShort fits other = cc
fit_word (Whole number) Int fits other = cc
fit_word (Whole number) UInt fits other = cc
fit_word (Whole number) Long fits other = cc
fit_word (Whole number) ULong fits other = cc
fit_word (Whole number) Category fits other = absurd fits
fit_word (Whole number) Text fits other = absurd fits

pub whole_of_record : (cells : List Cell) (columns : List Column) (col : ℕ) → RecordFits cells columns → IsWholeColumn columns col → let cell = get_or cells col Null in MatchOption (whole_in cell) (cell ≡ Null) (λ number. cell ≡ Whole number)
whole_of_record [] columns col fits whole = refl
whole_of_record (cell ∷ cells) [] col fits whole = absurd fits
whole_of_record (cell ∷ cells) (column ∷ columns) zero fits whole = fit_whole cell column.ty fits.0 whole
whole_of_record (cell ∷ cells) (column ∷ columns) (suc col) fits whole = whole_of_record cells columns col fits.1 whole

pub word_of_record : (cells : List Cell) (columns : List Column) (col : ℕ) → RecordFits cells columns → IsWordColumn columns col → let cell = get_or cells col Null in MatchOption (word_in cell) (cell ≡ Null) (λ word. cell ≡ Word word)
word_of_record [] columns col fits other = refl
word_of_record (cell ∷ cells) [] col fits other = absurd fits
word_of_record (cell ∷ cells) (column ∷ columns) zero fits other = fit_word cell column.ty fits.0 other
word_of_record (cell ∷ cells) (column ∷ columns) (suc col) fits other = word_of_record cells columns col fits.1 other

-- such a column is within the schema
pub whole_column_within : (columns : List Column) (col : ℕ) → IsWholeColumn columns col → col < length columns
whole_column_within [] col whole = absurd whole
whole_column_within (column ∷ columns) zero whole = omega arith
whole_column_within (column ∷ columns) (suc col) whole = omega (arith, whole_column_within columns col whole)

pub word_column_within : (columns : List Column) (col : ℕ) → IsWordColumn columns col → col < length columns
word_column_within [] col other = absurd other
word_column_within (column ∷ columns) zero other = omega arith
word_column_within (column ∷ columns) (suc col) other = omega (arith, word_column_within columns col other)

-- an answer by reference says the same
pub copied_word : (found : Option (Bor (List ℕ))) (cell : Cell) → option_copied found ≡ word_in cell → MatchOption (word_in cell) (cell ≡ Null) (λ word. cell ≡ Word word) → MatchOption found (cell ≡ Null) (λ word. cell ≡ Word word.now)
copied_word None cell same fits = let M : Option (List ℕ) → Type 0 = λ o. MatchOption o (cell ≡ Null) (λ word. cell ≡ Word word) in subst M (sym same) fits
copied_word (Some word) cell same fits = let M : Option (List ℕ) → Type 0 = λ o. MatchOption o (cell ≡ Null) (λ word. cell ≡ Word word) in subst M (sym same) fits

-- one cell more, in one column more
pub RecordFits-push : (cells : List Cell) (columns : List Column) (cell : Cell) (column : Column) → RecordFits cells columns → CellFits cell column.ty → RecordFits (cells ++ cell ∷ []) (columns ++ column ∷ [])
RecordFits-push [] [] cell column fits one = (one, tt)
RecordFits-push [] (d ∷ columns) cell column fits one = absurd fits
RecordFits-push (c ∷ cells) [] cell column fits one = absurd fits
RecordFits-push (c ∷ cells) (d ∷ columns) cell column fits one = (fits.0, RecordFits-push cells columns cell column fits.1 one)

-- the cell at a place fits its column
pub CellFits-at : (cells : List Cell) (columns : List Column) (at : ℕ) (cell : Cell) (column : Column) → RecordFits cells columns → at < length cells → cell ≡ get_or cells at cell → CellFits cell (get_or columns at column).ty
CellFits-at [] columns at cell column fits within is = absurd (omega arith)
CellFits-at (c ∷ cells) [] at cell column fits within is = absurd fits
CellFits-at (c ∷ cells) (d ∷ columns) zero cell column fits within is = let Fits : Cell → Type 0 = λ x. CellFits x d.ty in subst Fits (sym is) fits.0
CellFits-at (c ∷ cells) (d ∷ columns) (suc at) cell column fits within is = CellFits-at cells columns at cell column fits.1 (omega arith) is
