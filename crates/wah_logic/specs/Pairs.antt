-- Two vectors that are walked at equal places.
use Rattle.std.specs.Prelude.{◌≡◌, ℕ, ◌+◌, ◌*◌, ◌^◌, ◌<◌, Bool, List, [], ◌++◌, length, replicate, Option, None, Some}
use Rattle.wah_words.specs.Places.{places}
use Rattle.wah_logic.specs.declared.lockstep.Pair.{Pair}
use Rattle.wah_logic.specs.declared.lockstep.Pair.TheVariants as pairs

-- the values still to come of both, the words of both still to look at, and how many fills were looked at and have
-- groups left
pub record Both : Type 0 where
  pub a : List Bool
  pub b : List Bool
  pub words : ℕ
  pub fills : ℕ

-- the values of the first vector
abbrev pub first_values : Pair → List Bool
first_values (pairs.Fills a b groups) = replicate (31 * groups) a
first_values (pairs.Words a b) = places 31 a
first_values (pairs.Tails a b count) = places count a

-- the values of the second
abbrev pub second_values : Pair → List Bool
second_values (pairs.Fills a b groups) = replicate (31 * groups) b
second_values (pairs.Words a b) = places 31 b
second_values (pairs.Tails a b count) = places count b

-- What is known of a pair before these values: tails are the last.
abbrev pub IsPair : Pair → List Bool → Type 0
IsPair (pairs.Fills a b groups) after = 0 < groups
IsPair (pairs.Words a b) after = (a < 2 ^ 31) × (b < 2 ^ 31)
IsPair (pairs.Tails a b count) after = (0 < count) × (count < 31) × (a < 2 ^ count) × (b < 2 ^ count) × (after ≡ [])

-- The pair is the fronts of x and y, after which u and v are left.
pub record Splits (x y : List Bool) (pair : Pair) (u v : List Bool) : Type 0 where
  pub first : x ≡ first_values pair ++ u
  pub second : y ≡ second_values pair ++ v
  pub part : IsPair pair u
  pub same : length u ≡ length v

-- A pair is the fronts of what was left, and None comes exactly at the end. A word or a fill of one vector at least
-- ends with each pair.
abbrev pub Advances : Both → Option Pair → Both → Type 0
Advances old None new = (old.a ≡ []) × (old.b ≡ []) × (new ≡ old)
Advances old (Some pair) new = Splits old.a old.b pair new.a new.b × (new.words + new.fills < old.words + old.fills)
