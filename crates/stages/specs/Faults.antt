-- Why a plan isn't answered.
use Rattle.std.specs.Prelude.{◌≡◌, ℕ, List, Some, Result, Ok, Err, slice_get}
use Rattle.where_plan.specs.declared.plan.PlanAtom.{PlanAtom}

-- the call is refused by such a fault
abbrev pub IsRefused : {A E : Type 0} → Result A E → (E → Type 0) → Type 0
IsRefused (Ok value) P = ⊥
IsRefused (Err fault) P = P fault

-- one of these conditions is such
pub record IsOneOf (atoms : List PlanAtom) (P : PlanAtom → Type 0) : Type 0 where
  pub place : ℕ
  pub atom : PlanAtom
  pub there : slice_get atoms place ≡ Some atom
  pub is : P atom
