-- The parts of a dataset together: which files have them, and what a plan says of their records.
use Rattle.std.specs.Prelude.{◌≡◌, ℕ, Bool, List, length, map, Option, Some, slice_get, sum_by}
use Rattle.fb_outside.specs.Files.{Files}
use Rattle.fb_types.specs.declared.schemas.Column.{Column}
use Rattle.part_meta.specs.declared.part.PartMeta.{PartMeta}
use Rattle.where_plan.specs.declared.plan.Plan.{Plan}
use Rattle.wah_logic.specs.Logic.{ones}
use Rattle.world.specs.World.{Partition}
use Rattle.dataset.specs.declared.content.Dataset.{Dataset}
use Rattle.part_meaning.specs.Answers.{checked_in, definite_in, possible_in, rows_that_hold}
use Rattle.part_meaning.specs.Meaning.{IsPartAt}

-- The files, which are told, rest for these parts, one for each part that the dataset lists, in its order.
pub record AreParts (files : Option Files) (dataset : Dataset) (parts : List Partition) : Type 0 where
  pub number : length parts ≡ length dataset.parts
  pub each : (place : ℕ) (meta : PartMeta) (part : Partition) → slice_get dataset.parts place ≡ Some meta
      → slice_get parts place ≡ Some part → IsPartAt files dataset.dir meta part

-- on each record of each part, whether the plan holds of it
unfoldable pub rows_chosen : Plan → List Partition → List (List Bool)
rows_chosen plan parts = map (rows_that_hold plan) parts

-- of how many records the plan holds
unfoldable pub hits_over : Plan → List Partition → ℕ
hits_over plan parts = sum_by (λ part. ones (rows_that_hold plan part)) parts

-- of how many it surely holds by the bins of their columns, and of how many it may
unfoldable pub definite_over : List Column → List Partition → Plan → ℕ
definite_over schema parts plan = sum_by (λ part. definite_in schema part plan) parts

unfoldable pub possible_over : List Column → List Partition → Plan → ℕ
possible_over schema parts plan = sum_by (λ part. possible_in schema part plan) parts

-- how many pairs of a condition, at its place, and a candidate of it there are
unfoldable pub checked_over : List Column → List Partition → Plan → ℕ
checked_over schema parts plan = sum_by (λ part. checked_in schema part plan) parts
