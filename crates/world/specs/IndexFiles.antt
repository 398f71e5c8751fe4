-- The index of a column: its bins by the keys that the specification says, their bitmaps, and the bytes of its file.
use Rattle.std.specs.Prelude.{ℕ, ℤ, Bool, List, length, map, IsSome}
use Rattle.fb_types.specs.declared.cells.Cell.{Cell}
use Rattle.fb_types.specs.declared.types.ColType.{ColType}
use Rattle.index_spec.specs.Counts.{bitmap_count}
use Rattle.index_spec.specs.declared.spec.Spec.{Spec}
use Rattle.index_file.specs.declared.edge.Edge.{Edge}
use Rattle.index_file.specs.IndexFile.{index_bytes}
use Rattle.binning.specs.Bins.{bins_of, cells, present}
use Rattle.binning.specs.Encodings.{vectors}
use Rattle.binning.specs.Keys.{keying_of}
use Rattle.binning.specs.Members.{bitmaps_of}
use Rattle.binning.specs.declared.gathering.Bin.{Bin}
use Rattle.binning.specs.declared.rules.Keying.{Keying}
use Rattle.world.specs.Cells.{is_present, stored_numbers}

-- ---- of rows, some of which have a number

-- the keys that the specification says over the numbers that are there
abbrev pub keys_by : Spec → List Bool → List ℤ → Keying
keys_by spec mask numbers = keying_of spec.binning (present (cells mask numbers))

-- the bins of the rows that have a number
abbrev pub bins_by : Spec → List Bool → List ℤ → List Bin
bins_by spec mask numbers = bins_of (keys_by spec mask numbers) (cells mask numbers)

abbrev pub edge_of : Bin → Edge
edge_of bin = record { least = bin.least; greatest = bin.greatest }

abbrev pub bitmaps_by : Spec → List Bool → List ℤ → List (List Bool)
bitmaps_by spec mask numbers = bitmaps_of spec.encoding (length mask) (vectors (bins_by spec mask numbers))

-- the bytes of their index
unfoldable pub index_of : Spec → List Bool → List ℤ → List ℕ
index_of spec mask numbers =
    index_bytes (length mask) spec (map edge_of (bins_by spec mask numbers)) (bitmaps_by spec mask numbers)

-- ---- of the cells of a column

abbrev pub column_bins : Spec → ColType → List Cell → List Bin
column_bins spec ty column = bins_by spec (map is_present column) (stored_numbers ty column)

abbrev pub column_index : Spec → ColType → List Cell → List ℕ
column_index spec ty column = index_of spec (map is_present column) (stored_numbers ty column)

-- the encoding that the specification names has bitmaps of so many bins
abbrev pub HasBitmaps : Spec → ColType → List Cell → Type 0
HasBitmaps spec ty column = IsSome (bitmap_count spec.encoding (length (column_bins spec ty column)))
