-- Rows that were found, as far as a walk over candidates came.
use Rattle.std.specs.Prelude.{ℕ, Bool, List}

-- the rows before some row, with whether each was found, and how many rows there are in all
pub record FoundRows : Type 0 where
  pub bits : List Bool
  pub rows : ℕ
