-- What a question and an estimate read, and the steps that they take.
use Rattle.std.specs.Prelude.{◌≡◌, ◌⊎◌, ◌<◌, ℕ, Bool, true, ◌||◌, List, Option, Some, Result, Ok, IsOkAnd}
use Rattle.std.specs.List.{list_any}
use Rattle.std.specs.Str.{bytes_eq}
use Rattle.fb_outside.specs.Files.{Files}
use Rattle.fb_outside.specs.Reads.{AddsOnly, Look}
use Rattle.part_meta.specs.FileNames.{catalog_name, file_name, part_name}
use Rattle.part_meta.specs.declared.names.FileKind.{FileKind}
use Rattle.dataset.specs.Found.{dataset_in, found_in}
use Rattle.dataset.specs.Opened.{IsTextLook}
use Rattle.dataset.specs.declared.content.Dataset.{Dataset}
use Rattle.stages.specs.Looks.{AddsLooks}
use Rattle.where_grammar.specs.declared.clause.Clause.{Clause}
use Rattle.where_plan.specs.PlanOf.{plan_of}
use Rattle.where_plan.specs.declared.plan.Plan.{Plan}
use Rattle.world.specs.Stands.{StandsFor}
use Rattle.world.specs.World.{Content, Partition, World, content_at}
use Rattle.query_engine.specs.Reads.{bitmaps_over, is_bitmap_over, steps_over}
use Rattle.statuses.specs.declared.Status.{Status}
use Rattle.ibis_answer.specs.Answer.{asked_of}
use Rattle.ibis_answer.specs.Query.{names, read_clause}

-- ---- over every store

-- the texts of the dataset, where the query's text isn't refused
abbrev pub IsOpeningLook : (dir query : List ℕ) → Look → Type 0
IsOpeningLook dir query look = IsOkAnd (read_clause query) (λ clause. IsTextLook dir look)

-- a file, in some part, of a column that the clause names
pub record IsClauseLook (dir : List ℕ) (clause : Option Clause) (look : Look) : Type 0 where
  pub number : ℕ
  pub few : number < 4096
  pub name : List ℕ
  pub named : names clause name ≡ true
  pub kind : FileKind
  pub file : look.name ≡ file_name dir number (Some name) kind

-- Nothing where the query's text is refused. Else the texts of the dataset, and the files of the columns that the clause names.
abbrev pub IsAnswerLook : (dir query : List ℕ) → Look → Type 0
IsAnswerLook dir query look = IsOkAnd (read_clause query) (λ clause. IsTextLook dir look ⊎ IsClauseLook dir clause look)

-- ---- where the files stand for a world

-- the catalog, or the text of a part of the dataset
unfoldable pub is_text_in : List ℕ → Content → Look → Bool
is_text_in dir content look =
    bytes_eq look.name (catalog_name dir) || list_any (λ part. bytes_eq look.name (part_name dir part.number)) content.parts

-- Besides texts, the reads are allowed for the clause's plan; those of bitmaps are the plan's, part by part, and all of them
-- where the call is done.
abbrev pub AddsPlanLooks : (Dataset → List Partition → Plan → Look → Bool) → List ℕ → Option Clause → Content → (old new : Option (List Look)) → Type 0 → Type 0
AddsPlanLooks allowed dir clause content old new done =
    let dataset = dataset_in dir content in
    let plan = plan_of content.schema clause in
    AddsLooks old new (λ look. is_text_in dir content look || allowed dataset content.parts plan look)
    (is_bitmap_over dataset content.parts) (bitmaps_over dataset content.parts plan) done

-- nothing but texts where what is asked is refused
abbrev pub AddsAskedLooks : (Dataset → List Partition → Plan → Look → Bool) → List ℕ → Result (Option Clause) Status → Option Content → (old new : Option (List Look)) → Type 0 → Type 0
AddsAskedLooks allowed dir (Ok clause) (Some content) old new done = AddsPlanLooks allowed dir clause content old new done
AddsAskedLooks allowed dir asked content old new done = AddsOnly (IsTextLook dir) old new

abbrev pub ReadsInWorld : (Dataset → List Partition → Plan → Look → Bool) → (dir query : List ℕ) → Option Files → (old new : Option (List Look)) → Type 0 → Type 0
ReadsInWorld allowed dir query files old new done =
    (world : World) → StandsFor files world → AddsAskedLooks allowed dir (asked_of dir query (found_in world dir)) (content_at world dir) old new done

-- how many steps are taken at most: none where what is asked is refused
abbrev pub steps_of : List ℕ → Result (Option Clause) Status → Option Content → ℕ
steps_of dir (Ok clause) (Some content) = steps_over (dataset_in dir content) content.parts (plan_of content.schema clause)
steps_of dir asked content = 0

abbrev pub steps_in : (dir query : List ℕ) → World → ℕ
steps_in dir query world = steps_of dir (asked_of dir query (found_in world dir)) (content_at world dir)
