-- The records that a seed spells: a linear congruential generator, and what each of its numbers says of a record.
use Rattle.std.specs.Prelude.{ℕ, zero, suc, ◌+◌, ◌*◌, ◌^◌, ◌/◌, ◌%◌, ◌==◌, pos, List, [], ◌∷◌, ◌++◌, decimal, if◌then◌else◌}
use lib.Chars.{codes}
use Rattle.fb_types.specs.declared.cells.Cell.{Cell}
use Rattle.fb_types.specs.declared.cells.Cell.TheVariants.{Null, Whole, Word}
use Rattle.fb_types.specs.declared.schemas.Column.{Column}
use Rattle.fb_types.specs.declared.types.ColType.TheVariants.{Int, Category, Long}

-- `a:int,b:category,c:long`
unfoldable pub generated_columns : List Column
generated_columns =
    record { name = codes "a"; ty = Int }
    ∷ record { name = codes "b"; ty = Category }
    ∷ record { name = codes "c"; ty = Long } ∷ []

-- the number that follows another
abbrev pub number_after : ℕ → ℕ
number_after x = (x * 6364136223846793005 + 1442695040888963407) % 2 ^ 64

-- the number after so many steps from the seed
abbrev pub number_at : ℕ → (seed : ℕ) → ℕ
number_at zero seed = seed
number_at (suc k) seed = number_after (number_at k seed)

-- null for one number in ten
abbrev pub third_cell : ℕ → Cell
third_cell x = if x / 2 ^ 53 % 10 == 0 then Null else Whole (pos (x / 2 ^ 20 % 100000))

-- a number below 1,000; one of seven words; and a number below 100,000
unfoldable pub record_of : ℕ → List Cell
record_of x = Whole (pos (x / 2 ^ 33 % 1000)) ∷ Word (codes "w" ++ decimal (x / 2 ^ 43 % 7)) ∷ third_cell x ∷ []

-- so many records, each of the number after that of the one before
unfoldable pub generated : (rows seed : ℕ) → List (List Cell)
generated zero seed = []
generated (suc rows) seed = record_of (number_after seed) ∷ generated rows (number_after seed)
