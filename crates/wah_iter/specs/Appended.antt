-- What an appender has.
use Rattle.std.specs.Prelude.{ℕ, Bool, List}

-- the values so far, and for how many more regular words there is room
pub record Appended : Type 0 where
  pub values : List Bool
  pub spare : ℕ
