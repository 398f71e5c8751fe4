-- What a builder has.
use Rattle.std.specs.Prelude.{ℕ, Bool, List}

-- the values pushed, the regular words for which there is room, and whether a tail was pushed
pub record Built : Type 0 where
  pub values : List Bool
  pub spare : ℕ
  pub has_tail : Bool
