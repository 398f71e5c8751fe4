-- One of two vectors that are walked in lockstep, and what one turn of the walk gives.
use Rattle.std.specs.Prelude.{◌≡◌, ℕ, ◌+◌, ◌%◌, ◌^◌, ◌<◌, Bool, List, [], ◌++◌, length, Option, None, Some}
use Rattle.wah_words.specs.declared.run.Run.{Run}
use Rattle.wah_words.specs.declared.run.Run.TheVariants as runs
use Rattle.wah_words.specs.Left.{run_values}
use Rattle.wah_logic.specs.Logic.{each_place}

-- the values still to come, the words still to look at, and 1 where a fill was looked at and has groups left
pub record Rest : Type 0 where
  pub values : List Bool
  pub words : ℕ
  pub fills : ℕ

-- the looks that are left, at words and at what is left of a fill
abbrev pub looks : Rest → ℕ
looks r = r.words + r.fills

-- What is known of a run before these values: a tail is the last.
abbrev pub IsPart : Run → List Bool → Type 0
IsPart (runs.Fill bit groups) after = 0 < groups
IsPart (runs.Literal word) after = word < 2 ^ 31
IsPart (runs.Tail bits count) after = (0 < count) × (count < 31) × (bits < 2 ^ count) × (after ≡ [])

-- A run is the front of what was left, and None comes exactly at the end.
abbrev pub Takes : Rest → Option Run → Rest → Type 0
Takes old None new = (old.values ≡ []) × (new ≡ old)
Takes old (Some run) new = (old.values ≡ run_values run ++ new.values) × (looks old ≡ looks new + 1) × IsPart run new.values

-- The run is the operation on the fronts of x and y, after which u and v are left.
pub record Joins (op : Bool → Bool → Bool) (x y : List Bool) (run : Run) (u v : List Bool) : Type 0 where
  pub values : each_place op x y ≡ run_values run ++ each_place op u v
  pub part : IsPart run u
  pub same : length u ≡ length v

-- one turn of the walk over both
abbrev pub Turns : (Bool → Bool → Bool) → Rest → Rest → Option Run → Rest → Rest → Type 0
Turns op a b None c d = (a.values ≡ []) × (b.values ≡ [])
Turns op a b (Some run) c d = Joins op a.values b.values run c.values d.values × (looks c + looks d < looks a + looks b)

-- What was put out grows by the operation on fronts of x and y, after which u and v are left; more comes after whole
-- groups only.
pub record Puts (op : Bool → Bool → Bool) (x y out u v grown : List Bool) : Type 0 where
  pub values : grown ++ each_place op u v ≡ out ++ each_place op x y
  pub same : length u ≡ length v
  pub aligned : 0 < length u → length grown % 31 ≡ 0
