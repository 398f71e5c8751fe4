-- What the records of a flat list of cells are.
use Rattle.std.proofs.Common.{◌≡◌, ℕ, zero, suc, ◌+◌, ◌*◌, ◌^◌, ◌<◌, ◌≤◌, List, [], ◌∷◌, ◌++◌, length, get_or, take, drop, refl, ap, sym, subst, ◌∙◌, arith, length-append, length-drop, add-one}
use Rattle.std.proofs.lemmas.List.{take-append-le, drop-append-le, get_or-take, get_or-drop, take_all}
use Rattle.std.proofs.lemmas.Nat.{mul-add-lt}
use Rattle.std.proofs.lemmas.List.Elements.{All-append}
use Rattle.std.specs.List.{All}
use Rattle.fb_types.specs.declared.cells.Cell.{Cell}
use Rattle.fb_types.specs.declared.cells.Cell.TheVariants.{Null}
use Rattle.fb_types.specs.declared.schemas.Column.{Column}
use Rattle.fb_types.specs.Cells.{RecordFits}
use Rattle.fb_types.specs.Rows.{rows_of, table_of, IsLaidOut}
use Rattle.fb_types.specs.Table.{Table, AllFit, add_record, cell_at}
use Rattle.fb_types.proofs.CellFacts.{length-RecordFits}

pub length-rows_of : (width rows : ℕ) (cells : List Cell) → length (rows_of width rows cells) ≡ rows
length-rows_of width zero cells = refl
length-rows_of width (suc rows) cells = ap suc (length-rows_of width rows (drop width cells))

pub rows_of-append : (width rows : ℕ) (cells more : List Cell) → length cells ≡ rows * width → length more ≡ width → rows_of width (suc rows) (cells ++ more) ≡ rows_of width rows cells ++ more ∷ []
rows_of-append width zero [] more whole one = ap (λ cells. cells ∷ []) (take_all width more (omega arith))
rows_of-append width zero (cell ∷ cells) more whole one = absurd (omega arith)
rows_of-append width (suc rows) cells more whole one =
    let long : width ≤ length cells = omega (arith, whole) in
    let rest : length (drop width cells) ≡ rows * width = omega (arith, whole, length-drop width cells) in
    let first = take-append-le width cells more long in
    let others = drop-append-le width cells more long in
    let step = rows_of-append width rows (drop width cells) more rest one in
    rw (first, others) (ap (λ records. take width cells ∷ records) step)

pub get_or-rows_of : (width rows : ℕ) (cells : List Cell) (row col : ℕ) → row < rows → col < width → get_or (get_or (rows_of width rows cells) row []) col Null ≡ get_or cells (row * width + col) Null
get_or-rows_of width zero cells row col here within = absurd (omega arith)
get_or-rows_of width (suc rows) cells zero col here within = get_or-take width cells col Null within ∙ ap (λ i. get_or cells i Null) (omega arith)
get_or-rows_of width (suc rows) cells (suc row) col here within =
    get_or-rows_of width rows (drop width cells) row col (omega arith) within
    ∙ (get_or-drop width cells (row * width + col) Null ∙ ap (λ i. get_or cells i Null) (omega arith))

All-one : {X : Type 0} (P : X → Type 0) (x : X) → P x → All P (x ∷ [])
All-one P x h zero d k = h
All-one P x h (suc i) d k = absurd (omega arith)

-- one more record
pub rows_of-more : (width rows : ℕ) (cells more : List Cell) → length cells ≡ rows * width → length more ≡ width → rows_of width (rows + 1) (cells ++ more) ≡ rows_of width rows cells ++ more ∷ []
rows_of-more width rows cells more whole one = rw add-one (rows_of-append width rows cells more whole one)

pub IsLaidOut-append : (schema : List Column) (rows : ℕ) (cells more : List Cell) → IsLaidOut schema rows cells → RecordFits more schema → length more ≡ length schema → length (cells ++ more) < 2 ^ 64 → IsLaidOut schema (rows + 1) (cells ++ more)
IsLaidOut-append schema rows cells more laid fits one few =
    let Fits : List Cell → Type 0 = λ r. RecordFits r schema in
    let Every : List (List Cell) → Type 0 = λ records. All Fits records in
    let every : Every (rows_of (length schema) rows cells ++ more ∷ []) =
    All-append Fits (rows_of (length schema) rows cells) (more ∷ []) laid.fits (All-one Fits more fits) in
    record {
      valid = laid.valid;
      whole = omega (arith, laid.whole, one, length-append cells more);
      few = few;
      fits = subst Every (sym (rows_of-more (length schema) rows cells more laid.whole one)) every;
    }

-- there are no more records than cells
pub rows_few : (schema : List Column) (rows : ℕ) (cells : List Cell) → IsLaidOut schema rows cells → rows < 2 ^ 64
rows_few schema rows cells laid = grind (arith, laid.whole, laid.few, laid.valid.some)

-- what a push leaves
pub pushed : (schema : List Column) (rows : ℕ) (cells new more : List Cell) → IsLaidOut schema rows cells → RecordFits more schema → new ≡ cells ++ more → length new < 2 ^ 64 → IsLaidOut schema (rows + 1) new
pushed schema rows cells new more laid fits is few =
    let Laid : List Cell → Type 0 = λ c. IsLaidOut schema (rows + 1) c in
    let one = length-RecordFits more schema fits in
    subst Laid (sym is) (IsLaidOut-append schema rows cells more laid fits one (rw (← is) few))

pub pushed_table : (schema : List Column) (rows : ℕ) (cells new more : List Cell) (table : Table) → table_of schema rows cells ≡ table → IsLaidOut schema rows cells → RecordFits more schema → new ≡ cells ++ more → table_of schema (rows + 1) new ≡ add_record table more
pushed_table schema rows cells new more table view laid fits is =
    let one = length-RecordFits more schema fits in
    let records = rows_of-more (length schema) rows cells more laid.whole one in
    rw (← view, is) (ap (λ all. record { schema = schema; records = all }) records)

-- the same facts of the table that the flat list shows
pub row_within : (schema : List Column) (rows : ℕ) (cells : List Cell) (table : Table) (row : ℕ) → table_of schema rows cells ≡ table → row < length table.records → row < rows
row_within schema rows cells table row view here =
    omega (arith, ap (λ (t : Table). length t.records) view, length-rows_of (length schema) rows cells)

pub cell_place : (schema : List Column) (rows : ℕ) (cells : List Cell) (table : Table) (row col : ℕ) → table_of schema rows cells ≡ table → IsLaidOut schema rows cells → row < length table.records → col < length table.schema → row * length schema + col < length cells
cell_place schema rows cells table row col view laid here within =
    let row_here = row_within schema rows cells table row view here in
    let col_here : col < length schema = omega (arith, ap (λ (t : Table). length t.schema) view) in
    omega (arith, laid.whole, mul-add-lt row (length schema) col rows row_here col_here)

pub cell_found : (schema : List Column) (rows : ℕ) (cells : List Cell) (table : Table) (row col : ℕ) → table_of schema rows cells ≡ table → row < length table.records → col < length table.schema → get_or cells (row * length schema + col) Null ≡ cell_at table row col
cell_found schema rows cells table row col view here within =
    let row_here = row_within schema rows cells table row view here in
    let col_here : col < length schema = omega (arith, ap (λ (t : Table). length t.schema) view) in
    rw (← view) (sym (get_or-rows_of (length schema) rows cells row col row_here col_here))

pub record_fits : (schema : List Column) (rows : ℕ) (cells : List Cell) (table : Table) (row : ℕ) → table_of schema rows cells ≡ table → IsLaidOut schema rows cells → row < length table.records → RecordFits (get_or table.records row []) table.schema
record_fits schema rows cells table row view laid here =
    let Fit : Table → Type 0 = λ t. AllFit t in
    let all : AllFit table = subst Fit view laid.fits in
    all row [] here
