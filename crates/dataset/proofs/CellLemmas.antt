-- The cells of a column of a part, and what they leave, row by row.
use Rattle.std.proofs.Common.{zero, suc, ◌≡◌, ◌<◌, ◌≤◌, ◌+◌, ◌*◌, ◌^◌, ℕ, Bool, true, false, List, [], ◌∷◌, ◌++◌, Option, Some, None, IsSome, MatchOption, All, length, map, take, drop, get_or, pow_mono, IsNone, slice_index_or, slice_get, refl, sym, ap, subst, ◌∙◌, arith, rules}
use Rattle.std.proofs.lemmas.List.{get_or-map, get_or-take, get_or-drop, take_more, map-append, length-map, length-take, length-drop, get_or_default}
use Rattle.std.proofs.lemmas.Bool.{false≢true}
use Rattle.std.proofs.lemmas.Grind.{pow_more}
use Rattle.std.specs.Int.{from_bool}
use Rattle.std.proofs.lemmas.List.Elements.{All-map, All-take, All-drop}
use Rattle.wah_words.specs.Places.{places}
use Rattle.fb_types.specs.declared.cells.Cell.{Cell}
use Rattle.fb_types.specs.declared.cells.Cell.TheVariants.{Null, Whole, Word}
use Rattle.fb_types.specs.declared.types.ColType.{ColType}
use Rattle.fb_types.specs.declared.types.ColType.TheVariants.{Byte, UByte, Short, UShort, Int, UInt, Long, ULong, Category, Text}
use Rattle.fb_types.specs.Cells.{CellFits, RecordFits}
use Rattle.fb_types.specs.declared.schemas.Column.{Column}
use Rattle.fb_types.proofs.CellFacts.{length-RecordFits, CellFits-at}
use Rattle.fb_types.specs.Table.{Table, AllFit, cell_at}
use Rattle.fb_types.specs.Types.{ends_of}
use Rattle.column_file.specs.Values.{ValueFits}
use Rattle.world.specs.Cells.{column_cells, is_present, number_of}
use Rattle.dataset.specs.WrittenColumns.{records_from}

-- ---- cut from a table

pub length-records : (table : Table) (first rows : ℕ) → first + rows ≤ length table.records → length (records_from table first rows) ≡ rows
length-records table first rows within = simp (length-take, length-drop) (omega arith)

pub length-cells : (table : Table) (col first rows : ℕ) → first + rows ≤ length table.records → length (column_cells col (records_from table first rows)) ≡ rows
length-cells table col first rows within =
    length-map (records_from table first rows) (λ cells. slice_index_or cells col Null) ∙ length-records table first rows within

pub cell_there : (table : Table) (col first rows row : ℕ) → first + rows ≤ length table.records → row < rows
    → slice_index_or (column_cells col (records_from table first rows)) row Null ≡ cell_at table (first + row) col
cell_there table col first rows row within h =
    let len = length-records table first rows within in
    get_or-map (λ cells. slice_index_or cells col Null) (records_from table first rows) row [] Null (omega arith)
    ∙ ap (λ cells. slice_index_or cells col Null)
    (get_or-take rows (drop first table.records) row [] h ∙ get_or-drop first table.records row [])

-- ---- one row more

pub mapped_more : {X Y : Type 0} (f : X → Y) (xs : List X) (row : ℕ) (d : X) → row < length xs
    → map f (take (row + 1) xs) ≡ map f (take row xs) ++ f (get_or xs row d) ∷ []
mapped_more f xs row d h = ap (map f) (take_more xs row d h) ∙ map-append f (take row xs) (get_or xs row d ∷ [])

pub group_more : (cells : List Cell) (first row : ℕ) → first + row < length cells
    → map is_present (take (row + 1) (drop first cells)) ≡ map is_present (take row (drop first cells)) ++ is_present (get_or cells (first + row) Null) ∷ []
group_more cells first row h =
    let within : row < length (drop first cells) = omega (arith, length-drop first cells) in
    mapped_more is_present (drop first cells) row Null within
    ∙ ap (λ cell. map is_present (take row (drop first cells)) ++ is_present cell ∷ []) (get_or-drop first cells row Null)

-- ---- rows behind others

take-add : {X : Type 0} (n m : ℕ) (xs : List X) → n ≤ length xs → take (n + m) xs ≡ take n xs ++ take m (drop n xs)
take-add zero m xs h = ap (λ k. take k xs) (omega arith)
take-add (suc n) m [] h = absurd (omega arith)
take-add (suc n) m (x ∷ xs) h =
    let e : suc n + m ≡ suc (n + m) = omega arith in
    ap (λ k. take k (x ∷ xs)) e ∙ ap (λ ys. x ∷ ys) (take-add n m xs (omega arith))

pub groups_more : (cells : List Cell) (n m : ℕ) → n ≤ length cells
    → map is_present (take (n + m) cells) ≡ map is_present (take n cells) ++ map is_present (take m (drop n cells))
groups_more cells n m h = ap (map is_present) (take-add n m cells h) ∙ map-append is_present (take n cells) (take m (drop n cells))

pub length-present : (cells : List Cell) (n : ℕ) → n ≤ length cells → length (map is_present (take n cells)) ≡ n
length-present cells n h = length-map (take n cells) is_present ∙ (length-take n cells ∙ omega arith)

-- ---- an element that is there

slice_get_within : {X : Type 0} (xs : List X) (i : ℕ) (x : X) → slice_get xs i ≡ Some x → i < length xs
slice_get_within [] i x h = absurd (cc)
slice_get_within (y ∷ ys) zero x h = omega arith
slice_get_within (y ∷ ys) (suc i) x h = let rest = slice_get_within ys i x h in omega (arith, rest)

some_is : {X : Type 0} (a b : X) → Some a ≡ Some b → a ≡ b
some_is a b e = cc

slice_get_at : {X : Type 0} (xs : List X) (i : ℕ) (x : X) → slice_get xs i ≡ Some x → get_or xs i x ≡ x
slice_get_at [] i x h = absurd (cc)
slice_get_at (y ∷ ys) zero x h = some_is y x h
slice_get_at (y ∷ ys) (suc i) x h = slice_get_at ys i x h

-- ---- numbers

number_fits : (ty : ColType) (cell : Cell) → IsSome (ends_of ty) → CellFits cell ty → ValueFits (number_of cell) ty
number_fits Byte Null s h = search rules
number_fits UByte Null s h = search rules
number_fits Short Null s h = search rules
number_fits UShort Null s h = search rules
number_fits Int Null s h = search rules
number_fits UInt Null s h = search rules
number_fits Long Null s h = search rules
number_fits ULong Null s h = search rules
number_fits Category Null s h = absurd (false≢true s)
number_fits Text Null s h = absurd (false≢true s)
number_fits Byte (Whole n) s h = h
number_fits UByte (Whole n) s h = h
number_fits Short (Whole n) s h = h
number_fits UShort (Whole n) s h = h
number_fits Int (Whole n) s h = h
number_fits UInt (Whole n) s h = h
number_fits Long (Whole n) s h = h
number_fits ULong (Whole n) s h = h
number_fits Category (Whole n) s h = absurd (false≢true s)
number_fits Text (Whole n) s h = absurd (false≢true s)
number_fits Byte (Word w) s h = absurd (h)
number_fits UByte (Word w) s h = absurd (h)
number_fits Short (Word w) s h = absurd (h)
number_fits UShort (Word w) s h = absurd (h)
number_fits Int (Word w) s h = absurd (h)
number_fits UInt (Word w) s h = absurd (h)
number_fits Long (Word w) s h = absurd (h)
number_fits ULong (Word w) s h = absurd (h)
number_fits Category (Word w) s h = absurd (false≢true s)
number_fits Text (Word w) s h = absurd (false≢true s)

pub numbers_fit : (ty : ColType) (cells : List Cell) → IsSome (ends_of ty) → All (λ cell. CellFits cell ty) cells → All (λ number. ValueFits number ty) (map number_of cells)
numbers_fit ty cells s h = All-map (λ number. ValueFits number ty) number_of cells (each cells h)
  where
    each : (xs : List Cell) → All (λ cell. CellFits cell ty) xs → All (λ cell. ValueFits (number_of cell) ty) xs
    each xs k = λ i d within. number_fits ty (get_or xs i d) s (k i d within)

-- ---- the cells fit the column

pub cells_fit : (table : Table) (column : Column) (col first rows : ℕ) → AllFit table → slice_get table.schema col ≡ Some column
    → All (λ cell. CellFits cell column.ty) (column_cells col (records_from table first rows))
cells_fit table column col first rows fit there =
    All-map (λ cell. CellFits cell column.ty) (λ cells. slice_index_or cells col Null) (records_from table first rows)
    (λ i d within.
    let within_col = slice_get_within table.schema col column there in
    let record_fits = All-take (λ cells. RecordFits cells table.schema) rows (drop first table.records)
    (All-drop (λ cells. RecordFits cells table.schema) first table.records fit) i d within in
    let cells = get_or (records_from table first rows) i d in
    let len : length cells ≡ length table.schema = length-RecordFits cells table.schema record_fits in
    let at : col < length cells = omega (arith, len, within_col) in
    subst (λ (c : Column). CellFits (get_or cells col Null) c.ty) (slice_get_at table.schema col column there)
    (CellFits-at cells table.schema col (get_or cells col Null) column record_fits at (get_or_default cells col Null (get_or cells col Null) at)))

-- ---- words

none_is : {X : Type 0} (o : Option X) → IsNone o → o ≡ None
none_is None h = refl
none_is (Some x) h = absurd (false≢true (sym h))

pub word_fits : (ty : ColType) (word : List ℕ) → IsNone (ends_of ty) → CellFits (Word word) ty → (1 ≤ length word) × (length word ≤ 65535)
word_fits ty word none h =
    let e = none_is (ends_of ty) none in
    subst (λ ends. MatchOption ends ((1 ≤ length word) × (length word ≤ 65535)) (λ _. ⊥)) e h

-- ---- the number of a group

pub bit_fits : (group row : ℕ) (b : Bool) → group < 2 ^ row → 2 * group + from_bool b < 2 ^ (row + 1)
bit_fits group row true h = omega (arith, h, pow_more 2 row)
bit_fits group row false h = omega (arith, h, pow_more 2 row)

pub small_group : (group row : ℕ) → group < 2 ^ row → row ≤ 30 → group < 1073741824
small_group group row h few = let all : 2 ^ row ≤ 2 ^ 30 = pow_mono few in omega (arith, h, all)

pub bit_small : (group : ℕ) (b : Bool) → group < 1073741824 → 2 * group + from_bool b < 2 ^ 32
bit_small group true h = omega (arith, h)
bit_small group false h = omega (arith, h)

pub no_places : (n : ℕ) → places 0 n ≡ []
unfolding places
no_places n = refl
