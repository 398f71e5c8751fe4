-- The blocks of neighbouring rows by which candidates are read, each as its first row and the one past its last.
use Rattle.std.specs.Prelude.{ℕ, ◌+◌, ◌-◌, ◌*◌, ◌/◌, Bool, List, map, min}
use Rattle.std.specs.List.{flat_map, range_with_len}
use Rattle.wah_iter.specs.Rows.{runs_of}

-- how many blocks of at most 4,096 rows so many neighbouring rows take
abbrev pub block_count : ℕ → ℕ
block_count rows = (rows + 4095) / 4096

-- the block of this number, of the rows from the first up to `past`
abbrev pub block_at : ℕ → ℕ → ℕ → ℕ × ℕ
block_at first past number = (first + 4096 * number, min past (first + 4096 * number + 4096))

-- the blocks of a run of rows, all but the last one full
unfoldable pub blocks_of_run : ℕ × ℕ → List (ℕ × ℕ)
blocks_of_run run = map (block_at run.0 run.1) (range_with_len 0 (block_count (run.1 - run.0)))

-- the blocks of each maximal run of the rows at which a vector is true
abbrev pub blocks_of : List Bool → List (ℕ × ℕ)
blocks_of rows = flat_map blocks_of_run (runs_of rows)
