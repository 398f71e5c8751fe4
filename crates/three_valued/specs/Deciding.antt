-- When answers on some rows decide a plan.
use Rattle.std.specs.Prelude.{◌≡◌, ℕ, ◌<◌, Bool, List, length, slice_index_or}
use Rattle.binning.specs.declared.against_bins.Three.{Three}
use Rattle.binning.specs.declared.against_bins.Three.TheVariants.{No, Unknown}
use Rattle.where_plan.specs.declared.plan.PlanAtom.{PlanAtom}
use Rattle.where_plan.specs.declared.plan.Plan.{Plan}
use Rattle.three_valued.specs.Plans.{AreDecided, IsSound, atoms_of, is_true}

-- The answers of the plan are sound on each row, and the answers of its conditions are their truth where the plan is
-- Unknown.
pub record Decides (plan : Plan) (whole : List Three) (answer : ℕ → PlanAtom → Three) (truth : ℕ → PlanAtom → Bool) : Type 0 where
  pub sound : (row : ℕ) → row < length whole → IsSound (slice_index_or whole row No) (is_true (truth row) plan)
  pub exact : (row : ℕ) → row < length whole → slice_index_or whole row No ≡ Unknown → AreDecided (answer row) (truth row) (atoms_of plan)
