-- What is known of a condition on a row before any value is read.
use Rattle.std.specs.Prelude.{ℕ, ℤ, pos, ◌+◌, ◌+ℤ◌, Bool, List, map, Option, Some, None, if◌then◌else◌}
use Rattle.std.specs.Int.{int_gap}
use Rattle.std.specs.List.{list_all, list_any, range_with_len}
use Rattle.fb_types.specs.Types.{width_of}
use Rattle.binning.specs.Against.{against}
use Rattle.binning.specs.declared.against_bins.Three.{Three}
use Rattle.binning.specs.declared.against_bins.Three.TheVariants.{Yes, No, Unknown}
use Rattle.binning.specs.declared.gathering.Bin.{Bin}
use Rattle.where_grammar.specs.Holds.{is_there}
use Rattle.where_plan.specs.SpansOf.{code_meets}
use Rattle.where_plan.specs.declared.plan.PlanAtom.{PlanAtom}
use Rattle.where_plan.specs.declared.plan.PlanAtom.TheVariants as atom
use Rattle.three_valued.specs.Tables.{decided}
use Rattle.world.specs.Cells.{dictionary_of}
use Rattle.bin_answers.specs.Bins.{bin_at, said_by}
use Rattle.part_meaning.specs.Columns.{PartColumn, bins_in, cell_of_row}

-- ---- a test of numbers

-- the whole numbers from one to another
abbrev pub between : ℤ → ℤ → List ℤ
between least greatest = map (λ k. least +ℤ pos k) (range_with_len 0 (int_gap least greatest + 1))

-- Yes where each of the numbers passes, No where none does, else Unknown
abbrev pub over : (ℤ → Bool) → List ℤ → Three
over test numbers = if list_all test numbers then Yes else (if list_any test numbers then Unknown else No)

-- ---- a bin

-- What a bin says of a test of its codes. Texts have no codes, and nothing is known of them.
abbrev pub of_codes : Option ℕ → (ℤ → Bool) → Bin → Three
of_codes None test bin = Unknown
of_codes (Some width) test bin = over test (between bin.least bin.greatest)

-- what a bin of the column says of the condition: that it has values at all answers `exists`
unfoldable pub bin_says : PartColumn → PlanAtom → Bin → Three
bin_says column (atom.Whole col spans) bin = against bin.least bin.greatest spans
bin_says column (atom.Word col condition) bin =
    of_codes (width_of column.ty) (code_meets condition (dictionary_of column.cells)) bin
bin_says column (atom.Exists col) bin = Yes

-- ---- a row

-- what the row's bin says, and No where the row has no value
abbrev pub known_by_bin : PartColumn → PlanAtom → ℕ → Three
known_by_bin column condition row = said_by (bin_says column condition) (bin_at row (bins_in column))

-- what is known of the condition on the row before any value is read; whether it has one the mask tells
unfoldable pub known : PartColumn → PlanAtom → ℕ → Three
known column (atom.Whole col spans) row = known_by_bin column (atom.Whole col spans) row
known column (atom.Word col condition) row = known_by_bin column (atom.Word col condition) row
known column (atom.Exists col) row = decided (is_there (cell_of_row column row))
