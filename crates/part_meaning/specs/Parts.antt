-- The conditions of a part: the column and the records that they are asked of, and what is known of them.
use Rattle.std.specs.Prelude.{ℕ, Bool, List, [], length, slice_index_or}
use Rattle.std.specs.List.{list_any, range_with_len}
use Rattle.fb_outside.specs.Reads.{Look}
use Rattle.fb_types.specs.declared.cells.Cell.{Cell}
use Rattle.fb_types.specs.declared.schemas.Column.{Column}
use Rattle.binning.specs.declared.against_bins.Three.{Three}
use Rattle.where_plan.specs.Plans.{place_in}
use Rattle.where_plan.specs.declared.plan.PlanAtom.{PlanAtom}
use Rattle.world.specs.World.{Partition}
use Rattle.part_meaning.specs.Columns.{PartColumn, column_at}
use Rattle.part_meaning.specs.Known.{known}
use Rattle.part_meaning.specs.Files.{is_bitmap_of}

-- the column of a condition
abbrev pub column_for : List Column → Partition → PlanAtom → PartColumn
column_for schema part condition = column_at schema part (place_in condition)

-- the record of a row
abbrev pub record_of : Partition → ℕ → List Cell
record_of part row = slice_index_or part.records row []

-- what is known of a condition on a row
abbrev pub known_in : List Column → Partition → ℕ → PlanAtom → Three
known_in schema part row condition = known (column_for schema part condition) condition row

-- the read is of a bitmap of some column
unfoldable pub is_bitmap_in : List ℕ → List Column → Partition → Look → Bool
is_bitmap_in dir schema part look =
    list_any (λ col. is_bitmap_of dir part.number (column_at schema part col) look) (range_with_len 0 (length schema))
