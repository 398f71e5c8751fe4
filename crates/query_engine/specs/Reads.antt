-- The reads and the steps that a plan takes over the parts of a dataset.
use Rattle.std.specs.Prelude.{◌≡◌, ℕ, ◌*◌, Bool, List, Some, length, slice_get, slice_index_or, sum_by}
use Rattle.std.specs.List.{flat_map, list_any}
use Rattle.fb_outside.specs.Reads.{Look}
use Rattle.part_meta.specs.FileNames.{file_name}
use Rattle.part_meta.specs.declared.names.FileKind.{FileKind}
use Rattle.part_meta.specs.declared.part.PartMeta.{PartMeta}
use Rattle.three_valued.specs.Plans.{atoms_of}
use Rattle.where_plan.specs.Plans.{place_in}
use Rattle.stages.specs.Faults.{IsOneOf}
use Rattle.stages.specs.Answer.{bitmaps_in, is_allowed_in, is_free_in, work_in}
use Rattle.stages.specs.Meaning.{Meaning}
use Rattle.wah_logic.specs.Logic.{groups_and_rest}
use Rattle.where_plan.specs.declared.plan.Plan.{Plan}
use Rattle.world.specs.World.{Partition}
use Rattle.dataset.specs.declared.content.Dataset.{Dataset}
use Rattle.part_meaning.specs.Columns.{no_column}
use Rattle.part_meaning.specs.Meaning.{meaning_of}
use Rattle.part_meaning.specs.Parts.{is_bitmap_in}

-- Over every store: the read is of a file of the column of one of the plan's conditions, in a part that the dataset lists.
pub record IsPlanLook (dataset : Dataset) (plan : Plan) (look : Look) : Type 0 where
  pub place : ℕ
  pub part : PartMeta
  pub listed : slice_get dataset.parts place ≡ Some part
  pub kind : FileKind
  pub for_condition : IsOneOf (atoms_of plan) (λ condition. look.name
      ≡ file_name dataset.dir part.number (Some (slice_index_or dataset.schema (place_in condition) no_column).name) kind)

-- what the part of the dataset means to conditions
abbrev pub means_in : Dataset → Partition → Meaning
means_in dataset part = meaning_of dataset.dir dataset.schema part

-- For some part and some condition of the plan the read is of a file of the condition's column that has none of its values, or of
-- values on the condition's candidates.
unfoldable pub is_allowed_over : Dataset → List Partition → Plan → Look → Bool
is_allowed_over dataset parts plan look = list_any (λ part. is_allowed_in (means_in dataset part) plan look) parts

-- for some part and some condition of the plan, of a file of the condition's column that has none of its values
unfoldable pub is_free_over : Dataset → List Partition → Plan → Look → Bool
is_free_over dataset parts plan look = list_any (λ part. is_free_in (means_in dataset part) plan look) parts

-- of a bitmap of some column of some part
unfoldable pub is_bitmap_over : Dataset → List Partition → Look → Bool
is_bitmap_over dataset parts look = list_any (λ part. is_bitmap_in dataset.dir dataset.schema part look) parts

-- the bitmaps of each part's conditions, part by part
unfoldable pub bitmaps_over : Dataset → List Partition → Plan → List Look
bitmaps_over dataset parts plan = flat_map (λ part. bitmaps_in (means_in dataset part) plan) parts

-- how many steps it takes at most: for each part twice its groups and rest, times the work
abbrev pub steps_in : Dataset → Plan → Partition → ℕ
steps_in dataset plan part = 2 * groups_and_rest (length part.records) * work_in (means_in dataset part) plan

unfoldable pub steps_over : Dataset → List Partition → Plan → ℕ
steps_over dataset parts plan = sum_by (steps_in dataset plan) parts
