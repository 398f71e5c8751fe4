-- What a request for indexes answers and does: it builds index by index, and ends done, or at the first that can't be built.
use Rattle.std.specs.Prelude.{ℕ, Bool, not, List, [], ◌++◌, length, map, decimal, find, flat_map, take_while, Option, Some, None, is_some, Result, Ok, Err, slice_get}
use Rattle.std.specs.Option.{option_map_or}
use lib.Chars.{codes}
use Rattle.fb_types.specs.declared.schemas.Column.{Column}
use Rattle.index_spec.specs.Counts.{bitmap_count}
use Rattle.index_spec.specs.Language.{spec_of}
use Rattle.index_spec.specs.declared.spec.EncodingSpec.{EncodingSpec}
use Rattle.index_spec.specs.declared.spec.Spec.{Spec}
use Rattle.index_spec.specs.declared.spec.SpecKind.{SpecKind}
use Rattle.binning.specs.Encodings.{nested_bins}
use Rattle.world.specs.Cells.{column_cells}
use Rattle.world.specs.Effects.{Builds, Effect}
use Rattle.world.specs.IndexFiles.{column_bins}
use Rattle.world.specs.World.{Content, Partition, World, content_at}
use Rattle.dataset.specs.Found.{Found, found_in}
use Rattle.statuses.specs.declared.LimitKind.TheVariants.{Bins}
use Rattle.statuses.specs.declared.Status.{Status}
use Rattle.statuses.specs.declared.Status.TheVariants.{Done, BadSpec, Limit}
use Rattle.statuses.specs.Lines.{line_of}
use Rattle.statuses.specs.Opening.{dataset_or_refusal}
use Rattle.statuses.specs.Outcome.{◌>>=◌, Outcome, refused}
use Rattle.ibis_build.specs.Columns.{chosen_columns}

-- ---- what is asked

-- a specification, and the columns that get an index by it, by their places in the schema
pub record Asked : Type 0 where
  pub spec : Spec
  pub cols : List ℕ

abbrev pub spec_or_refusal : Result Spec SpecKind → Result Spec Status
spec_or_refusal (Ok spec) = Ok spec
spec_or_refusal (Err kind) = Err (BadSpec kind)

-- what is asked, where neither the specification, nor what the path has, nor the list of columns is refused
unfoldable pub asked_of : (dir text : List ℕ) → (list : Option (List ℕ)) → Found → Result Asked Status
asked_of dir text list found = do
  spec ← spec_or_refusal (spec_of text)
  dataset ← dataset_or_refusal dir found
  cols ← chosen_columns dataset.schema list
  Ok (record { spec = spec; cols = cols })

-- ---- the indexes that are to be built

-- that of the column at a place, in the part of that number, where it has so many bins
pub record Task : Type 0 where
  pub number : ℕ
  pub col : ℕ
  pub bins : ℕ

-- how many bins the column at a place has in a part
abbrev pub bins_in : Spec → List Column → Partition → ℕ → ℕ
bins_in spec schema part col =
    option_map_or (λ column. length (column_bins spec column.ty (column_cells col part.records))) (slice_get schema col) 0

abbrev pub task_in : Spec → List Column → Partition → ℕ → Task
task_in spec schema part col = record { number = part.number; col = col; bins = bins_in spec schema part col }

abbrev pub part_tasks : Spec → List Column → (cols : List ℕ) → Partition → List Task
part_tasks spec schema cols part = map (task_in spec schema part) cols

-- part by part, and in each part column by column
abbrev pub tasks_in : Spec → List Column → (cols : List ℕ) → List Partition → List Task
tasks_in spec schema cols parts = flat_map (part_tasks spec schema cols) parts

-- ---- how far they are built

-- the encoding takes the column's bins
abbrev pub is_possible : EncodingSpec → Task → Bool
is_possible encoding task = is_some (bitmap_count encoding task.bins)

-- those before the first that can't be built
abbrev pub possible_front : EncodingSpec → List Task → List Task
possible_front encoding tasks = take_while (is_possible encoding) tasks

abbrev pub first_refused : EncodingSpec → List Task → Option Task
first_refused encoding tasks = find (λ task. not (is_possible encoding task)) tasks

abbrev pub effects_of : (dir : List ℕ) → Spec → List Task → List Effect
effects_of dir spec tasks = map (λ task. Builds dir task.number task.col spec) tasks

-- the column's bins, or the groups of a two-level encoding, are more than 1,024
abbrev pub bins_status : EncodingSpec → Task → Status
bins_status encoding task = Limit Bins (nested_bins encoding task.bins) 1024

-- ---- what is printed and done

unfoldable pub built_line : ℕ → List ℕ
built_line count = codes "built " ++ (decimal count ++ codes " indexes\n")

-- the indexes before a refused one stay
abbrev pub ended_by : EncodingSpec → Option Task → List Effect → Outcome
ended_by encoding None effects = record { status = Done; text = built_line (length effects); effects = effects }
ended_by encoding (Some task) effects =
    record { status = bins_status encoding task; text = line_of (bins_status encoding task); effects = effects }

abbrev pub outcome_of_tasks : (dir : List ℕ) → Spec → List Task → Outcome
outcome_of_tasks dir spec tasks =
    ended_by spec.encoding (first_refused spec.encoding tasks) (effects_of dir spec (possible_front spec.encoding tasks))

abbrev pub tasks_at : Asked → Option Content → List Task
tasks_at asked None = []
tasks_at asked (Some content) = tasks_in asked.spec content.schema asked.cols content.parts

abbrev pub outcome_by : (dir : List ℕ) → Result Asked Status → Option Content → Outcome
outcome_by dir (Ok asked) content = outcome_of_tasks dir asked.spec (tasks_at asked content)
outcome_by dir (Err status) content = refused status

-- what a request comes to in a world
abbrev pub build_outcome : (dir text : List ℕ) → (list : Option (List ℕ)) → World → Outcome
build_outcome dir text list world = outcome_by dir (asked_of dir text list (found_in world dir)) (content_at world dir)
