-- The answers of the first stage, row by row.
use Rattle.std.proofs.Common.{◌≡◌, ℕ, zero, suc, ◌+◌, ◌*◌, ◌<◌, ◌≤◌, ℤ, pos, ◌≤ℤ◌, Bool, true, false, cond, not, List, [], ◌∷◌, All, get_or, length, map, Option, Some, None, IsSome, refl, sym, ap, subst, ◌∙◌, arith}
use Rattle.std.specs.Prelude.{if◌then◌else◌}
use Rattle.std.specs.List.{find, flat_map, list_any, range_with_len}
use Rattle.std.proofs.lemmas.Int.{ints}
use Rattle.std.proofs.lemmas.List.{ext_get_or, length-map}
use Rattle.std.proofs.lemmas.List.Elements.{All-head, All-tail}
use Rattle.std.proofs.lemmas.List.FromFn.{get_or-map-range_with_len, length-map-range_with_len}
use Rattle.std.proofs.Math.ListN.{get_or-map}
use Rattle.fb_outside.specs.Files.{Files}
use Rattle.fb_types.specs.declared.cells.Cell.{Cell}
use Rattle.fb_types.specs.declared.cells.Cell.TheVariants.{Null, Whole, Word}
use Rattle.fb_types.specs.declared.types.ColType.{ColType}
use Rattle.fb_types.specs.declared.types.ColType.TheVariants.{Category, Text}
use Rattle.fb_types.specs.Types.{ends_of, width_of}
use Rattle.index_spec.specs.declared.spec.Spec.{Spec}
use Rattle.binning.specs.Against.{against}
use Rattle.binning.specs.Spans.{int_le}
use Rattle.binning.specs.declared.against_bins.Three.{Three}
use Rattle.binning.specs.declared.against_bins.Three.TheVariants.{Yes, No, Unknown}
use Rattle.binning.specs.declared.gathering.Bin.{Bin}
use Rattle.binning.specs.declared.span_lists.Span.{Span}
use Rattle.three_valued.specs.Rows.{each_row}
use Rattle.three_valued.specs.Tables.{decided, undecided}
use Rattle.where_grammar.specs.Holds.{is_there}
use Rattle.where_grammar.specs.declared.clause.Atom.{Atom}
use Rattle.where_plan.specs.SpansOf.{AreSpansOf, code_meets, code_range, span}
use Rattle.where_plan.specs.declared.plan.PlanAtom.TheVariants as atom
use Rattle.world.specs.Cells.{dictionary_of, is_present}
use Rattle.part_meta.specs.FileNames.{index_name}
use Rattle.index_file.specs.Places.{bitmap_look}
use Rattle.index_spec.specs.Members.{needed}
use Rattle.bin_answers.specs.BinRuns.{runs_of}
use Rattle.binning.proofs.TestLemmas.{int_le-true}
use Rattle.bin_answers.specs.Bins.{bin_at, said_by}
use Rattle.part_meaning.specs.Columns.{PartColumn, bins_in, bins_under, cell_of_row, ends_in, ends_or, one_bin, present_rows}
use Rattle.part_meaning.specs.Bitmaps.{bins_say, bitmap_looks, index_places, looks_under, needed_of, needed_under, work_of}
use Rattle.part_meaning.specs.Known.{bin_says, known, of_codes}
use Rattle.part_meaning.proofs.BinLemmas.{one_none}
use Rattle.part_meaning.proofs.ColumnLemmas.{IsColumn, number_by, row_has}
use Rattle.part_meaning.proofs.RangeLemmas.{against_words}
use Rattle.part_meaning.proofs.KnownLemmas.{text_unknown}
use Rattle.two_stage.specs.ColumnFiles.{HasColumn}
use Rattle.two_stage.specs.Placed.{Placed}

pub mapped_rows : {A X : Type 0} (f : A → X) (xs : List A) (d : A) (rows : ℕ) (said : ℕ → X) → length xs ≡ rows
    → ((row : ℕ) → row < rows → f (get_or xs row d) ≡ said row) → map f xs ≡ each_row rows said
mapped_rows f xs d rows said long each =
    ext_get_or (f d) (map f xs) (map said (range_with_len 0 rows)) (length-map xs f ∙ long ∙ sym (length-map-range_with_len said 0 rows))
    (λ row below.
    let within : row < rows = omega (arith, below, length-map xs f, long) in
    get_or-map f xs row d ∙ each row within ∙ sym (get_or-map-range_with_len said 0 rows row row (f d) within (omega arith)))

present_at : (column : PartColumn) (row : ℕ) → get_or (present_rows column) row false ≡ is_present (cell_of_row column row)
present_at column row = get_or-map is_present column.cells row Null

there_present : (cell : Cell) → is_present cell ≡ is_there cell
there_present Null = refl
there_present (Whole n) = refl
there_present (Word word) = refl

pub as_column : (files : Option Files) (p : Placed) (column : PartColumn) → HasColumn files p column → IsColumn column
as_column files p column has = record { fits = has.fits; width = has.width }

-- what is said of a row by whether it has a value
rows_by : {X : Type 0} (files : Option Files) (p : Placed) (column : PartColumn) (f : Bool → X) (said : ℕ → X) (mask : List Bool) → HasColumn files p column → mask ≡ present_rows column
    → ((row : ℕ) → f (is_present (cell_of_row column row)) ≡ said row) → map f mask ≡ each_row p.rows said
rows_by files p column f said mask has is each =
    ap (map f) is
    ∙ mapped_rows f (present_rows column) false p.rows said (length-map column.cells is_present ∙ has.each)
    (λ row below. ap f (present_at column row) ∙ each row)

pub exists_rows : (files : Option Files) (p : Placed) (column : PartColumn) (mask : List Bool) (answers : List Three) (col : ℕ) → HasColumn files p column → mask ≡ present_rows column
    → answers ≡ map decided mask → answers ≡ each_row p.rows (known column (atom.Exists col))
unfolding known
exists_rows files p column mask answers col has is said =
    said ∙ rows_by files p column decided (λ row. decided (is_there (cell_of_row column row))) mask has is (λ row. ap decided (there_present (cell_of_row column row)))

pub texts_rows : (files : Option Files) (p : Placed) (column : PartColumn) (mask : List Bool) (answers : List Three) (col : ℕ) (condition : Atom) → HasColumn files p column
    → p.column.ty ≡ Text → mask ≡ present_rows column → answers ≡ map undecided mask → answers ≡ each_row p.rows (known column (atom.Word col condition))
texts_rows files p column mask answers col condition has ty is said =
    let none : width_of column.ty ≡ None = ap width_of (has.typed ∙ ty) in
    said
    ∙ rows_by files p column undecided (known column (atom.Word col condition)) mask has is
    (λ row. ap undecided (there_present (cell_of_row column row)) ∙ sym (text_unknown column row (as_column files p column has) col condition none))

-- ---- without an index: one bin

row_among : (rows : List Bool) (row : ℕ) → get_or rows row false ≡ true → list_any (λ b. b) rows ≡ true
row_among [] row h = absurd cc
row_among (true ∷ rows) row h = refl
row_among (false ∷ rows) zero h = absurd cc
row_among (false ∷ rows) (suc row) h = row_among rows row h

-- what the one bin of the rows that have a value says
one_says : (says : Bin → Three) (ends : Span) (rows : List Bool) (row : ℕ) (b : Bool) → get_or rows row false ≡ b
    → said_by says (bin_at row (one_bin ends rows)) ≡ (if b then says (record { least = ends.least; greatest = ends.greatest; rows = rows }) else No)
unfolding one_bin
one_says says ends rows row true e =
    let bin : Bin = record { least = ends.least; greatest = ends.greatest; rows = rows } in
    ap (said_by says) (ap (λ b. bin_at row (cond b (bin ∷ []) [])) (row_among rows row e) ∙ ap (λ b. cond b (Some bin) None) e)
one_says says ends rows row false e = ap (said_by says) (one_none ends rows row e)

-- where the ends are in order that is what the range says; else there is no row, and so it is where any is there
pub whole_rows : (files : Option Files) (p : Placed) (column : PartColumn) (mask : List Bool) (answers : List Three) (answer : Three) (ends : Span) (spans : List Span) (col : ℕ)
    → HasColumn files p column → column.spec ≡ None → mask ≡ present_rows column → ends ≡ ends_in column.ty column.cells
    → answer ≡ (if int_le ends.least ends.greatest then against ends.least ends.greatest spans else No)
    → ((row : ℕ) → is_present (cell_of_row column row) ≡ true → int_le ends.least ends.greatest ≡ true)
    → answers ≡ map (λ b. if b then answer else No) mask → answers ≡ each_row p.rows (known column (atom.Whole col spans))
unfolding known bins_in bin_says
whole_rows files p column mask answers answer ends spans col has none is its by_ends order said =
    said
    ∙ rows_by files p column (λ b. if b then answer else No)
    (λ row. said_by (λ bin. against bin.least bin.greatest spans) (bin_at row (bins_under column.spec column.ty column.cells))) mask has is
    (λ row. at_row row (is_present (cell_of_row column row)) refl
    ∙ sym (one_says (λ bin. against bin.least bin.greatest spans) (ends_in column.ty column.cells) (present_rows column) row (is_present (cell_of_row column row)) (present_at column row))
    ∙ ap (λ o. said_by (λ bin. against bin.least bin.greatest spans) (bin_at row (bins_under o column.ty column.cells))) (sym none))
  where
    at_row : (row : ℕ) (b : Bool) → is_present (cell_of_row column row) ≡ b
        → (if is_present (cell_of_row column row) then answer else No)
        ≡ (if is_present (cell_of_row column row) then against (ends_in column.ty column.cells).least (ends_in column.ty column.cells).greatest spans else No)
    at_row row false e = ap (λ b. cond b answer No) e ∙ sym (ap (λ b. cond b (against (ends_in column.ty column.cells).least (ends_in column.ty column.cells).greatest spans) No) e)
    at_row row true e =
        ap (λ b. cond b answer No) e
        ∙ by_ends ∙ ap (λ b. cond b (against ends.least ends.greatest spans) No) (order row e)
        ∙ ap (λ (s : Span). against s.least s.greatest spans) its
        ∙ sym (ap (λ b. cond b (against (ends_in column.ty column.cells).least (ends_in column.ty column.cells).greatest spans) No) e)

-- ---- between which ends the values lie

pub number_ends : (files : Option Files) (p : Placed) (column : PartColumn) (least greatest : ℤ) → HasColumn files p column
    → ends_of p.column.ty ≡ Some (least, greatest) → span least greatest ≡ ends_in column.ty column.cells
unfolding ends_in
number_ends files p column least greatest has e =
    ap (λ o. ends_or o (code_range (dictionary_of column.cells))) (sym (ap ends_of has.typed ∙ e))

pub word_ends : (files : Option Files) (p : Placed) (column : PartColumn) (words : List (List ℕ)) → HasColumn files p column → p.column.ty ≡ Category
    → words ≡ dictionary_of column.cells → span (pos 1) (pos (length words)) ≡ ends_in column.ty column.cells
unfolding ends_in
word_ends files p column words has ty e =
    ap code_range e ∙ ap (λ o. ends_or o (code_range (dictionary_of column.cells))) (sym (ap ends_of (has.typed ∙ ty)))

-- where a row has a value the ends are in order
pub ends_order : (files : Option Files) (p : Placed) (column : PartColumn) (row : ℕ) → HasColumn files p column → column.spec ≡ None
    → is_present (cell_of_row column row) ≡ true → int_le (ends_in column.ty column.cells).least (ends_in column.ty column.cells).greatest ≡ true
unfolding bins_in one_bin
ends_order files p column row has none there =
    let r = row_has column row (as_column files p column has) there in
    let ends = ends_in column.ty column.cells in
    let rows = present_rows column in
    let bin : Bin = record { least = ends.least; greatest = ends.greatest; rows = rows } in
    let here : get_or rows row false ≡ true = present_at column row ∙ there in
    let one : bin_at row (one_bin ends rows) ≡ Some bin =
    ap (λ b. bin_at row (cond b (bin ∷ []) [])) (row_among rows row here) ∙ ap (λ b. cond b (Some bin) None) here in
    let same : Some r.bin ≡ Some bin = sym r.at ∙ ap (λ o. bin_at row (bins_under o column.ty column.cells)) none ∙ one in
    let is : r.bin ≡ bin = cc in
    let n = number_by (ends_of column.ty) (dictionary_of column.cells) (cell_of_row column row) in
    let low : bin.least ≤ℤ n = subst (λ (b : Bin). b.least ≤ℤ n) is r.low in
    let high : n ≤ℤ bin.greatest = subst (λ (b : Bin). n ≤ℤ b.greatest) is r.high in
    int_le-true ends.least ends.greatest (omega (arith, ints, low, high))
