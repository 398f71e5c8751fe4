-- What a partition means to the conditions of plans.
use Rattle.std.specs.Prelude.{◌≡◌, ℕ, ◌<◌, Bool, true, List}
use Rattle.binning.specs.declared.against_bins.Three.{Three}
use Rattle.binning.specs.declared.against_bins.Three.TheVariants.{No}
use Rattle.fb_outside.specs.Reads.{Look}
use Rattle.where_plan.specs.declared.plan.PlanAtom.{PlanAtom}
use Rattle.three_valued.specs.Plans.{IsSound}

pub record Meaning : Type 0 where
  -- the number of its rows
  pub rows : ℕ
  -- what is known of a condition on a row before any value is read
  pub answer : ℕ → PlanAtom → Three
  -- whether the condition is true there
  pub truth : ℕ → PlanAtom → Bool
  -- whether the condition's column has no value there
  pub is_null : ℕ → PlanAtom → Bool
  -- the reads of the bitmaps that a condition needs, in order
  pub fetched : PlanAtom → List Look
  -- whether a read is of a bitmap
  pub is_bitmap : Look → Bool
  -- whether it is of a file of the condition's column that has none of its values
  pub is_free : PlanAtom → Look → Bool
  -- whether it is of values of the condition's column on these rows and on no other
  pub covers : PlanAtom → List ℕ → Look → Bool
  -- how many times the steps for all rows it may take to know what is known of a condition
  pub work : PlanAtom → ℕ

-- It has so many rows; a condition of this kind that is Yes is true, and one that is No isn't; where there is no value it is No.
pub record IsMeaningOf (rows : ℕ) (fits : PlanAtom → Type 0) (m : Meaning) : Type 0 where
  pub all : m.rows ≡ rows
  pub sound : (row : ℕ) (atom : PlanAtom) → row < m.rows → fits atom → IsSound (m.answer row atom) (m.truth row atom)
  pub nulls : (row : ℕ) (atom : PlanAtom) → row < m.rows → fits atom → m.is_null row atom ≡ true → m.answer row atom ≡ No
