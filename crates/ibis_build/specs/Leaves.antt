-- For which world the files stand once indexes were built.
use Rattle.std.specs.Prelude.{◌≡◌, ◌≤◌, ℕ, false, true, List, ◌∷◌, ◌++◌, length, take, Option, Result, Ok, Err}
use Rattle.std.specs.List.{AllByRecursion}
use Rattle.fb_outside.specs.Files.{Files}
use Rattle.index_spec.specs.declared.spec.EncodingSpec.{EncodingSpec}
use Rattle.index_spec.specs.declared.spec.Spec.{Spec}
use Rattle.world.specs.Effects.{Effect, after}
use Rattle.world.specs.Stands.{StandsFor}
use Rattle.world.specs.World.{World}
use Rattle.statuses.specs.declared.Status.{Status}
use Rattle.statuses.specs.declared.Status.TheVariants.{Done}
use Rattle.statuses.specs.declared.stop.Unanswered.{Unanswered}
use Rattle.statuses.specs.declared.stop.Unanswered.TheVariants.{Refused, StoreFault, OutOfMemory}
use Rattle.statuses.specs.Outcome.{Outcome}
use Rattle.ibis_build.specs.Builds.{Task, bins_status, effects_of, is_possible}

-- ---- a request

-- the files stand for the world after the first so many of the effects
pub record StandsWithin (effects : List Effect) (world : World) (files : Option Files) : Type 0 where
  pub count : ℕ
  pub within : count ≤ length effects
  pub stands : StandsFor files (after world (take count effects))

-- Where a request is done it tells the number of its effects, and where it is refused the refusal is the definition's; the files
-- stand for the world after all effects that the definition has. Where it stopped they do for the world after some of them.
abbrev pub LeavesBuilt : Outcome → World → Result ℕ Unanswered → Option Files → Type 0
LeavesBuilt outcome world (Ok count) files =
    (outcome.status ≡ Done) × (count ≡ length outcome.effects) × StandsFor files (after world outcome.effects)
LeavesBuilt outcome world (Err (Refused status)) files = (outcome.status ≡ status) × StandsFor files (after world outcome.effects)
LeavesBuilt outcome world (Err StoreFault) files = StandsWithin outcome.effects world files
LeavesBuilt outcome world (Err OutOfMemory) files = StandsWithin outcome.effects world files

-- ---- the steps of one

-- each of these indexes can be built, and the files stand for the world with them
pub record StandsWith (dir : List ℕ) (spec : Spec) (world : World) (tasks : List Task) (files : Option Files) : Type 0 where
  pub possible : AllByRecursion (λ task. is_possible spec.encoding task ≡ true) tasks
  pub stands : StandsFor files (after world (effects_of dir spec tasks))

-- an index was refused, and those before it are built
pub record EndsRefused (dir : List ℕ) (spec : Spec) (world : World) (tasks : List Task) (status : Status) (files : Option Files) : Type 0 where
  pub front : List Task
  pub task : Task
  pub rest : List Task
  pub cut : tasks ≡ front ++ task ∷ rest
  pub built : StandsWith dir spec world front files
  pub impossible : is_possible spec.encoding task ≡ false
  pub is : status ≡ bins_status spec.encoding task

-- some of the first indexes are built
pub record EndsStopped (dir : List ℕ) (spec : Spec) (world : World) (tasks : List Task) (files : Option Files) : Type 0 where
  pub front : List Task
  pub rest : List Task
  pub cut : tasks ≡ front ++ rest
  pub built : StandsWith dir spec world front files

abbrev pub LeavesTasks : {A : Type 0} → (dir : List ℕ) → Spec → World → List Task → Result A Unanswered → Option Files → Type 0
LeavesTasks dir spec world tasks (Ok done) files = StandsWith dir spec world tasks files
LeavesTasks dir spec world tasks (Err (Refused status)) files = EndsRefused dir spec world tasks status files
LeavesTasks dir spec world tasks (Err StoreFault) files = EndsStopped dir spec world tasks files
LeavesTasks dir spec world tasks (Err OutOfMemory) files = EndsStopped dir spec world tasks files
