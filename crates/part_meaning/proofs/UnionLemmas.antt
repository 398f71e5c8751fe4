-- No row is in two bins of a column, and a row is in one where it has a value.
use Rattle.std.proofs.Common.{◌≡◌, ℕ, zero, suc, Bool, true, false, cond, List, [], ◌∷◌, length, get_or, map, replicate, Option, Some, None, IsSome, ◌≤ℤ◌, refl, sym, ap, subst, ◌∙◌}
use Rattle.std.specs.List.{list_any}
use Rattle.std.proofs.lemmas.List.{length-map}
use Rattle.std.proofs.lemmas.List.Elements.{All-cons, All-nil}
use Rattle.fb_types.specs.declared.schemas.Column.{Column}
use Rattle.fb_types.specs.Types.{ends_of, width_of}
use Rattle.index_spec.specs.declared.spec.Spec.{Spec}
use Rattle.binning.specs.Encodings.{vectors}
use Rattle.binning.specs.Members.{AreBins}
use Rattle.binning.specs.declared.gathering.Bin.{Bin}
use Rattle.binning.specs.declared.span_lists.Span.{Span}
use Rattle.binning.proofs.ColumnLemmas.{bins_are, bins_whole}
use Rattle.wah_logic.specs.Logic.{each_place, or, union}
use Rattle.world.specs.Cells.{column_cells, dictionary_of, is_present, stored_numbers}
use Rattle.world.specs.IndexFiles.{keys_by}
use Rattle.world.specs.World.{IsPartition, Partition}
use Rattle.bin_answers.specs.Bins.{bin_at}
use Rattle.part_meaning.specs.Columns.{PartColumn, bins_in, bins_under, cell_of_row, column_at, ends_in, number_of_row, one_bin, present_rows}
use Rattle.part_meaning.proofs.ColumnLemmas.{has_row, is_column, IsColumn, no_row, number_by, stored_by}

-- ---- one bin

not_one : {X : Type 0} {b : Bool} → b ≡ true → b ≡ false → X
not_one t f = absurd cc

in_first_alone : (rows : List Bool) (a row : ℕ) → get_or (get_or (rows ∷ []) a []) row false ≡ true → a ≡ 0
in_first_alone rows zero row h = refl
in_first_alone rows (suc a) row h = absurd cc

in_none : (a row : ℕ) → get_or (get_or [] a []) row false ≡ true → ⊥
in_none a row h = absurd cc

one_apart : (len : ℕ) (ends : Span) (rows : List Bool) → length rows ≡ len → AreBins len (vectors (one_bin ends rows))
unfolding one_bin
one_apart len ends rows long = by (list_any (λ b. b) rows)
  where
    bin : Bin
    bin = record { least = ends.least; greatest = ends.greatest; rows = rows }

    by : (b : Bool) → AreBins len (vectors (cond b (bin ∷ []) []))
    by true = record {
      long = All-cons (λ v. length v ≡ len) rows [] long (All-nil (λ v. length v ≡ len));
      apart = λ a b row h i. in_first_alone rows a row h ∙ sym (in_first_alone rows b row i);
    }
    by false = record { long = All-nil (λ v. length v ≡ len); apart = λ a b row h i. absurd (in_none a row h) }

or_zeros : (rows : List Bool) → each_place or rows (replicate (length rows) false) ≡ rows
unfolding each_place
or_zeros [] = refl
or_zeros (true ∷ rows) = ap (λ bs. true ∷ bs) (or_zeros rows)
or_zeros (false ∷ rows) = ap (λ bs. false ∷ bs) (or_zeros rows)

no_rows : (rows : List Bool) → list_any (λ b. b) rows ≡ false → replicate (length rows) false ≡ rows
no_rows [] h = refl
no_rows (true ∷ rows) h = absurd cc
no_rows (false ∷ rows) h = ap (λ bs. false ∷ bs) (no_rows rows h)

one_whole : (ends : Span) (rows : List Bool) → union (length rows) (vectors (one_bin ends rows)) ≡ rows
unfolding one_bin union
one_whole ends rows = by (list_any (λ b. b) rows) refl
  where
    bin : Bin
    bin = record { least = ends.least; greatest = ends.greatest; rows = rows }

    by : (b : Bool) → list_any (λ b. b) rows ≡ b → union (length rows) (vectors (cond b (bin ∷ []) [])) ≡ rows
    by true h = or_zeros rows
    by false h = no_rows rows h

-- ---- the bins of a column

stored_long : (column : PartColumn) → IsSome (width_of column.ty) → length (map is_present column.cells) ≡ length (stored_numbers column.ty column.cells)
stored_long column some =
    length-map column.cells is_present
    ∙ sym (length-map column.cells (number_by (ends_of column.ty) (dictionary_of column.cells)))
    ∙ ap length (sym (stored_by column.ty column.cells some))

column_apart : (column : PartColumn) → IsColumn column → AreBins (length (map is_present column.cells)) (vectors (bins_in column))
unfolding bins_in
column_apart column is = by column.spec refl
  where
    by : (spec : Option Spec) → column.spec ≡ spec → AreBins (length (map is_present column.cells)) (vectors (bins_under spec column.ty column.cells))
    by None e = one_apart (length (map is_present column.cells)) (ends_in column.ty column.cells) (map is_present column.cells) refl
    by (Some spec) e =
        bins_are (keys_by spec (map is_present column.cells) (stored_numbers column.ty column.cells)) (map is_present column.cells)
        (stored_numbers column.ty column.cells) (stored_long column (is.width spec e))

column_whole : (column : PartColumn) → IsColumn column → union (length (map is_present column.cells)) (vectors (bins_in column)) ≡ present_rows column
unfolding bins_in
column_whole column is = by column.spec refl
  where
    by : (spec : Option Spec) → column.spec ≡ spec
        → union (length (map is_present column.cells)) (vectors (bins_under spec column.ty column.cells)) ≡ map is_present column.cells
    by None e = one_whole (ends_in column.ty column.cells) (map is_present column.cells)
    by (Some spec) e =
        bins_whole (keys_by spec (map is_present column.cells) (stored_numbers column.ty column.cells)) (map is_present column.cells)
        (stored_numbers column.ty column.cells) (stored_long column (is.width spec e))

rows_of_part : (schema : List Column) (part : Partition) (col : ℕ)
    → length (map is_present (column_at schema part col).cells) ≡ length part.records
unfolding column_at
rows_of_part schema part col = length-map (column_cells col part.records) is_present ∙ length-map part.records _

pub bins_apart : (schema : List Column) (part : Partition) (col : ℕ) → IsPartition schema part
    → AreBins (length part.records) (vectors (bins_in (column_at schema part col)))
bins_apart schema part col valid =
    subst (λ n. AreBins n (vectors (bins_in (column_at schema part col)))) (rows_of_part schema part col)
    (column_apart (column_at schema part col) (is_column schema part col valid))

pub bins_all : (schema : List Column) (part : Partition) (col : ℕ) → IsPartition schema part
    → union (length part.records) (vectors (bins_in (column_at schema part col))) ≡ present_rows (column_at schema part col)
bins_all schema part col valid =
    ap (λ n. union n (vectors (bins_in (column_at schema part col)))) (sym (rows_of_part schema part col))
    ∙ column_whole (column_at schema part col) (is_column schema part col valid)

-- the number of a row lies between the ends of the bin that has it
ends_enclose : (column : PartColumn) (row : ℕ) (bin : Bin) → IsColumn column → IsSome (width_of column.ty) → bin_at row (bins_in column) ≡ Some bin
    → (bin.least ≤ℤ number_of_row column row) × (number_of_row column row ≤ℤ bin.greatest)
ends_enclose column row bin is some at = by (is_present (cell_of_row column row)) refl
  where
    by : (b : Bool) → is_present (cell_of_row column row) ≡ b
        → (bin.least ≤ℤ number_of_row column row) × (number_of_row column row ≤ℤ bin.greatest)
    by true h =
        let r = has_row column row is some h in
        let both : Some r.bin ≡ Some bin = sym r.at ∙ at in
        let same : r.bin ≡ bin = cc in
        subst (λ (b : Bin). (b.least ≤ℤ number_of_row column row) × (number_of_row column row ≤ℤ b.greatest)) same (r.low, r.high)
    by false h = let both : None ≡ Some bin = sym (no_row column row is h) ∙ at in absurd cc

pub bin_encloses : (schema : List Column) (part : Partition) (col row : ℕ) (bin : Bin) → IsPartition schema part
    → IsSome (width_of (column_at schema part col).ty) → bin_at row (bins_in (column_at schema part col)) ≡ Some bin
    → (bin.least ≤ℤ number_of_row (column_at schema part col) row) × (number_of_row (column_at schema part col) row ≤ℤ bin.greatest)
bin_encloses schema part col row bin valid some at =
    ends_enclose (column_at schema part col) row bin (is_column schema part col valid) some at
