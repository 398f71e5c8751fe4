-- What builds make of a world, and for which one the files stand after one of them.
use Rattle.std.proofs.Common.{◌≡◌, ◌≢◌, ◌⊎◌, inl, inr, ◌==◌, if◌then◌else◌, ℕ, ℤ, Bool, true, false, List, [], ◌∷◌, length, map, Option, Some, None, option_map, IsSome, is_some, refl, sym, ap, subst, ◌∙◌}
use Rattle.std.specs.FinMap.{FinMap}
use Rattle.std.specs.List.{slice_get}
use Rattle.std.specs.Option.{option_map_or}
use Rattle.std.specs.Ordering.{nat_cmp}
use Rattle.std.specs.Prelude.{Result, Ok, Err}
use Rattle.std.proofs.lemmas.Option.{slice_get-map}
use Rattle.fb_outside.specs.Files.{Files, SameFiles}
use Rattle.fb_types.specs.declared.cells.Cell.{Cell}
use Rattle.fb_types.specs.declared.schemas.Column.{Column}
use Rattle.fb_types.specs.Types.{width_of}
use Rattle.index_spec.specs.Counts.{bitmap_count}
use Rattle.index_spec.specs.declared.spec.Spec.{Spec}
use Rattle.binning.specs.Encodings.{nested_bins}
use Rattle.part_meta.specs.declared.part.PartMeta.{PartMeta}
use Rattle.part_meta.specs.FileNames.{index_name}
use Rattle.world.specs.Cells.{column_cells, is_present, stored_numbers}
use Rattle.world.specs.Effects.{Builds, after, after_build, after_one, built, indexed, with_index}
use Rattle.world.specs.IndexFiles.{column_bins, index_of}
use Rattle.world.specs.PartFiles.{part_data}
use Rattle.world.specs.Stands.{Stands, StandsFor}
use Rattle.world.specs.World.{Content, Partition, World, content_at}
use Rattle.world.proofs.MapLemmas.{get-insert_same}
use Rattle.dataset.specs.InWorld.{IsColumnOf}
use Rattle.index_build.specs.Build.{AnswersOver, HasRows, LeavesIndex, bin_count}
use Rattle.index_build.specs.Built.{StandsAfter}
use Rattle.index_build.specs.declared.fault.BuildFault.{BuildFault}
use Rattle.index_build.specs.declared.fault.BuildFault.TheVariants as build
use Rattle.index_build.specs.declared.writing.Built.{Built}
use Rattle.index_build.proofs.BuiltLemmas.{rows_in_world}
use Rattle.statuses.specs.declared.LimitKind.TheVariants.{Bins}
use Rattle.statuses.specs.declared.Status.{Status}
use Rattle.statuses.specs.declared.Status.TheVariants.{Limit}
use Rattle.statuses.specs.declared.stop.Unanswered.{Unanswered}
use Rattle.ibis_build.specs.Builds.{Task, bins_in, bins_status, effects_of, is_possible, part_tasks, task_in}
use Rattle.ibis_build.specs.Causes.{stop_of_build}
use Rattle.ibis_build.specs.Leaves.{EndsRefused, EndsStopped, LeavesTasks, StandsWith}
use Rattle.ibis_build.proofs.TaskLemmas.{with-nothing}

-- ---- a dataset after builds

-- the same parts, but for their indexes
pub record SameParts (before now : Content) : Type 0 where
  pub schema : now.schema ≡ before.schema
  pub parts : (place : ℕ) (p : Partition) → slice_get before.parts place ≡ Some p
      → (specs : FinMap nat_cmp Spec) × (slice_get now.parts place ≡ Some (record p { specs = specs }))

SameParts-refl : (content : Content) → SameParts content content
SameParts-refl content = record { schema = refl; parts = λ place p e. (p.specs, e) }

SameParts-trans : (a b c : Content) → SameParts a b → SameParts b c → SameParts a c
SameParts-trans a b c h k =
    record {
      schema = k.schema ∙ h.schema;
      parts = λ place p e.
          let mid = h.parts place p e in
          let last = k.parts place (record p { specs = mid.0 }) mid.1 in
          (last.0, last.1);
    }

indexed-by : (number col : ℕ) (spec : Spec) (p : Partition) (b : Bool) → (p.number == number) ≡ b
    → (specs : FinMap nat_cmp Spec) × (indexed number col spec p ≡ record p { specs = specs })
indexed-by number col spec p true e = ((with_index col spec p).specs, ap (λ (t : Bool). if t then with_index col spec p else p) e)
indexed-by number col spec p false e = (p.specs, ap (λ (t : Bool). if t then with_index col spec p else p) e)

SameParts-built : (content : Content) (number col : ℕ) (spec : Spec) → SameParts content (built content number col spec)
SameParts-built content number col spec =
    record {
      schema = refl;
      parts = λ place p e.
          let one = indexed-by number col spec p (p.number == number) refl in
          (one.0, slice_get-map (indexed number col spec) content.parts place ∙ ap (option_map (indexed number col spec)) e ∙ ap Some one.1);
    }

-- what the world has at the path after builds there
pub record KeepsContent (world : World) (dir : List ℕ) (before : Content) : Type 0 where
  pub content : Content
  pub there : content_at world dir ≡ Some content
  pub same : SameParts before content

pub content-after : (dir : List ℕ) (spec : Spec) (world : World) (tasks : List Task) (content : Content) → content_at world dir ≡ Some content
    → KeepsContent (after world (effects_of dir spec tasks)) dir content
content-after dir spec world [] content there = record { content = content; there = there; same = SameParts-refl content }
content-after dir spec world (task ∷ tasks) content there =
    let next : Content = built content task.number task.col spec in
    let here : content_at (after_one world (Builds dir task.number task.col spec)) dir ≡ Some next =
    ap (λ (w : World). content_at w dir) (ap (after_build world dir task.number task.col spec) there)
    ∙ get-insert_same world.datasets dir next in
    let later = content-after dir spec (after_one world (Builds dir task.number task.col spec)) tasks next here in
    record {
      content = later.content;
      there = later.there;
      same = SameParts-trans content next later.content (SameParts-built content task.number task.col spec) later.same;
    }

-- ---- one build

abbrev unit_of : Result Built BuildFault → Result (Unit {0}) Unanswered
unit_of (Ok built) = Ok tt
unit_of (Err fault) = Err (stop_of_build fault)

module _ (old new : Option Files) (world : World) (dir : List ℕ) (content : Content) (place : ℕ) (p : Partition) (col : ℕ) (column : Column)
    (spec : Spec) (part : PartMeta) (h : StandsFor old world) (there : content_at world dir ≡ Some content)
    (listed : slice_get content.parts place ≡ Some p) (in_schema : slice_get content.schema col ≡ Some column)
    (width : IsSome (width_of column.ty)) (is : part ≡ part_data content.schema p) where
  abbrev cells : List Cell
  cells = column_cells col p.records

  abbrev mask : List Bool
  mask = map is_present cells

  abbrev numbers : List ℤ
  numbers = stored_numbers column.ty cells

  abbrev task : Task
  task = task_in spec content.schema p col

  of : IsColumnOf world dir p col column
  of = record { content = content; there = there; place = place; listed = listed; in_schema = in_schema }

  bins-are : task.bins ≡ bin_count spec mask numbers
  bins-are =
      ap (λ (o : Option Column). option_map_or (λ (c : Column). length (column_bins spec c.ty (column_cells col p.records))) o 0) in_schema

  -- what holds of the rows that the files have, where they are told
  on-rows : (Q : List Bool → List ℤ → Type 0)
      → ((m : Files) (bits : List Bool) (ns : List ℤ) → old ≡ Some m → HasRows m dir part column bits ns → Q bits ns) → Q mask numbers
  on-rows Q f = found old refl
    where
      found : (told : Option Files) → old ≡ told → Q mask numbers
      found None at = absurd (subst (λ (o : Option Files). StandsFor o world) at h)
      found (Some m) at =
          f m mask numbers at
          (subst (λ (x : PartMeta). HasRows m dir x column mask numbers) (sym is)
          (rows_in_world m world dir p col column content.schema (subst (λ (o : Option Files). StandsFor o world) at h) of width))

  possible-by : (b : Option ℕ) (bool : Bool) → bitmap_count spec.encoding (bin_count spec mask numbers) ≡ b → is_some b ≡ bool
      → is_possible spec.encoding task ≡ bool
  possible-by b bool e s = ap (λ (n : ℕ). is_some (bitmap_count spec.encoding n)) bins-are ∙ ap is_some e ∙ s

  unchanged : SameFiles old new → StandsFor new world
  unchanged same = subst (λ (o : Option Files). StandsFor o world) (sym same) h

  nothing-done : StandsFor new world → EndsStopped dir spec world (task ∷ []) new
  nothing-done k = record { front = []; rest = task ∷ []; cut = refl; built = with-nothing dir spec world new k }

  whole : is_possible spec.encoding task ≡ true → StandsFor new (after_one world (Builds dir p.number col spec))
      → StandsWith dir spec world (task ∷ []) new
  whole possible k = record { possible = (possible, tt); stands = k }

  abbrev Leaves : Result Built BuildFault → List Bool → List ℤ → Type 0
  Leaves r bits ns = LeavesIndex spec.encoding (bin_count spec bits ns) (index_name dir part.number column.name) (index_of spec bits ns) r old new

  failed : Leaves (Err build.Store) mask numbers
      → StandsFor new world ⊎ StandsFor new (after_one world (Builds dir p.number col spec)) → EndsStopped dir spec world (task ∷ []) new
  failed (inl same) stands = nothing-done (unchanged same)
  failed (inr put) (inl k) = nothing-done k
  failed (inr put) (inr k) =
      record {
        front = task ∷ [];
        rest = [];
        cut = refl;
        built = whole (possible-by (bitmap_count spec.encoding (bin_count spec mask numbers)) true refl put.1) k;
      }

  by-answer : (r : Result Built BuildFault) → Leaves r mask numbers → AnswersOver spec.encoding (bin_count spec mask numbers) r
      → StandsAfter r new world (after_one world (Builds dir p.number col spec))
      → ((fault : BuildFault) → r ≡ Err fault → fault ≢ build.Store → SameFiles old new)
      → LeavesTasks dir spec world (task ∷ []) (unit_of r) new
  by-answer (Ok made) leaves answer stands kept =
      whole (possible-by (Some made.bitmaps) true answer.1 refl) stands
  by-answer (Err (build.Damaged file kind want have)) leaves answer stands kept = absurd answer
  by-answer (Err (build.TooManyBins bins limit)) leaves answer stands kept =
      record {
        front = [];
        task = task;
        rest = [];
        cut = refl;
        built = with-nothing dir spec world new (unchanged (kept (build.TooManyBins bins limit) refl (λ e. cc)));
        impossible = possible-by None false answer.0 refl;
        is = ap (λ (n : ℕ). Limit Bins n limit) answer.1 ∙ ap (λ (n : ℕ). Limit Bins (nested_bins spec.encoding n) limit) (sym bins-are)
            ∙ ap (λ (n : ℕ). Limit Bins (nested_bins spec.encoding task.bins) n) answer.2;
      }
  by-answer (Err build.Store) leaves answer stands kept = failed leaves stands
  by-answer (Err build.OutOfMemory) leaves answer stands kept = nothing-done (unchanged (kept build.OutOfMemory refl (λ e. cc)))

  -- from what a build promises
  pub leaves-one : (r : Result Built BuildFault)
      → ((m : Files) (bits : List Bool) (ns : List ℤ) → old ≡ Some m → HasRows m dir part column bits ns → Leaves r bits ns)
      → ((m : Files) (bits : List Bool) (ns : List ℤ) → old ≡ Some m → HasRows m dir part column bits ns
      → AnswersOver spec.encoding (bin_count spec bits ns) r)
      → (IsColumnOf world dir p col column → StandsAfter r new world (after_one world (Builds dir p.number col spec)))
      → ((fault : BuildFault) → r ≡ Err fault → fault ≢ build.Store → SameFiles old new)
      → LeavesTasks dir spec world (part_tasks spec content.schema (col ∷ []) p) (unit_of r) new
  leaves-one r leaves answer stands kept = by-answer r (on-rows (Leaves r) leaves)
      (on-rows (λ bits ns. AnswersOver spec.encoding (bin_count spec bits ns) r) answer) (stands of) kept
