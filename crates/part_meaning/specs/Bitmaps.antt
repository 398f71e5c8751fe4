-- Which bitmaps a condition needs, where they stand in the index file, and the work that they are.
use Rattle.std.specs.Prelude.{ℕ, ◌+◌, ◌*◌, List, [], length, map, Option, Some, None}
use Rattle.std.specs.List.{flat_map}
use Rattle.fb_outside.specs.Reads.{Look}
use Rattle.index_spec.specs.declared.spec.Spec.{Spec}
use Rattle.index_spec.specs.Members.{needed}
use Rattle.index_file.specs.IndexFile.{places_of}
use Rattle.index_file.specs.Places.{bitmap_look}
use Rattle.binning.specs.declared.against_bins.Three.{Three}
use Rattle.part_meta.specs.FileNames.{index_name}
use Rattle.where_plan.specs.declared.plan.PlanAtom.{PlanAtom}
use Rattle.where_plan.specs.declared.plan.PlanAtom.TheVariants as atom
use Rattle.world.specs.Cells.{is_present, stored_numbers}
use Rattle.world.specs.IndexFiles.{bitmaps_by, column_bins, edge_of}
use Rattle.bin_answers.specs.BinRuns.{runs_of}
use Rattle.part_meaning.specs.Columns.{PartColumn, bins_in}
use Rattle.part_meaning.specs.Known.{bin_says}

-- ---- which bitmaps

abbrev pub each_says : PartColumn → PlanAtom → List Three
each_says column condition = map (bin_says column condition) (bins_in column)

-- what each bin of the column says; `exists` asks none, since the mask answers it
unfoldable pub bins_say : PartColumn → PlanAtom → List Three
bins_say column (atom.Whole col spans) = each_says column (atom.Whole col spans)
bins_say column (atom.Word col condition) = each_says column (atom.Word col condition)
bins_say column (atom.Exists col) = []

abbrev pub needed_under : Option Spec → PartColumn → PlanAtom → List ℕ
needed_under None column condition = []
needed_under (Some spec) column condition =
    flat_map (λ r. needed spec.encoding (length (bins_in column)) r.first r.past) (runs_of (bins_say column condition))

-- the numbers of the bitmaps that the condition needs of its column, run by run of the bins that are Yes or Unknown; none
-- without an index
unfoldable pub needed_of : PartColumn → PlanAtom → List ℕ
needed_of column condition = needed_under column.spec column condition

-- ---- where they stand

-- where each bitmap of the column's index begins, and where the last ends
unfoldable pub index_places : Spec → PartColumn → List ℕ
index_places spec column =
    places_of spec (map edge_of (column_bins spec column.ty column.cells))
    (bitmaps_by spec (map is_present column.cells) (stored_numbers column.ty column.cells))

abbrev pub looks_under : Option Spec → List ℕ → PartColumn → PlanAtom → List Look
looks_under None index column condition = []
looks_under (Some spec) index column condition = map (bitmap_look index (index_places spec column)) (needed_of column condition)

-- the reads of these bitmaps, in the column's index file in the part of that number
unfoldable pub bitmap_looks : List ℕ → ℕ → PartColumn → PlanAtom → List Look
bitmap_looks dir number column condition = looks_under column.spec (index_name dir number column.name) column condition

-- ---- work

-- how many times the steps for all rows it may take to know what is known of the condition
unfoldable pub work_of : PartColumn → PlanAtom → ℕ
work_of column condition = 4 * (length (needed_of column condition) + length (runs_of (bins_say column condition)))
