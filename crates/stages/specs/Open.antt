-- Columns that were opened for conditions.
use Rattle.std.specs.Prelude.{◌≡◌, ℕ, List, Some, slice_get}
use Rattle.where_plan.specs.declared.plan.PlanAtom.{PlanAtom}

-- each is the open column of the condition at its place
abbrev pub AreOpen : {O : Type 0} → (PlanAtom → O → Type 0) → List PlanAtom → List O → Type 0
AreOpen {O} is_open atoms columns = (place : ℕ) (atom : PlanAtom) (column : O) → slice_get atoms place ≡ Some atom → slice_get columns place ≡ Some column → is_open atom column
