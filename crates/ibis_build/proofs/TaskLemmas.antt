-- Lists of indexes that are to be built: how far they can be, and what that makes of a world.
use Rattle.std.proofs.Common.{◌≡◌, ◌+◌, ◌*◌, ◌≤◌, ℕ, Bool, true, false, cond, not, List, [], ◌∷◌, ◌++◌, length, map, take, Option, Some, None, refl, sym, ap, subst, ◌∙◌, arith, append_assoc, append-nil}
use Rattle.std.specs.List.{AllByRecursion, find, flat_map, take_while}
use Rattle.std.specs.Prelude.{Result, Ok, Err, decimal}
use Rattle.std.proofs.lemmas.List.{length-append, length-map, map-append}
use Rattle.std.proofs.lemmas.List.Sums.{take_while-cons}
use Rattle.std.proofs.Math.Seq.{take-append_seam}
use Rattle.fb_outside.specs.Files.{Files}
use Rattle.fb_types.specs.declared.schemas.Column.{Column}
use Rattle.index_spec.specs.declared.spec.EncodingSpec.{EncodingSpec}
use Rattle.index_spec.specs.declared.spec.Spec.{Spec}
use Rattle.world.specs.Effects.{Effect, after, after_one}
use Rattle.world.specs.Stands.{StandsFor}
use Rattle.world.specs.World.{Partition, World}
use Rattle.statuses.specs.declared.Status.TheVariants.{Done}
use Rattle.statuses.specs.declared.stop.Unanswered.{Unanswered}
use Rattle.statuses.specs.declared.stop.Unanswered.TheVariants.{Refused, StoreFault, OutOfMemory}
use Rattle.statuses.specs.Lines.{line_of}
use Rattle.statuses.specs.Outcome.{Outcome}
use Rattle.ibis_build.specs.Builds.{Task, bins_status, built_line, effects_of, ended_by, first_refused, is_possible, outcome_of_tasks, part_tasks, possible_front, tasks_in}
use Rattle.ibis_build.specs.Leaves.{EndsRefused, EndsStopped, LeavesBuilt, LeavesTasks, StandsWith, StandsWithin}

abbrev ArePossible : EncodingSpec → List Task → Type 0
ArePossible encoding tasks = AllByRecursion (λ task. is_possible encoding task ≡ true) tasks

pub possible-append : (encoding : EncodingSpec) (front more : List Task) → ArePossible encoding front → ArePossible encoding more → ArePossible encoding (front ++ more)
possible-append encoding [] more h k = k
possible-append encoding (task ∷ front) more h k = (h.0, possible-append encoding front more h.1 k)

-- ---- how far tasks can be done

front_by : (encoding : EncodingSpec) (task : Task) (tasks : List Task) (b : Bool) → is_possible encoding task ≡ b
    → possible_front encoding (task ∷ tasks) ≡ cond b (task ∷ possible_front encoding tasks) []
front_by encoding task tasks b e =
    take_while-cons (is_possible encoding) task tasks ∙ ap (λ (t : Bool). cond t (task ∷ possible_front encoding tasks) []) e

refused_by : (encoding : EncodingSpec) (task : Task) (tasks : List Task) (b : Bool) → is_possible encoding task ≡ b
    → first_refused encoding (task ∷ tasks) ≡ cond (not b) (Some task) (first_refused encoding tasks)
refused_by encoding task tasks b e = ap (λ (t : Bool). cond (not t) (Some task) (first_refused encoding tasks)) e

pub front-append : (encoding : EncodingSpec) (front more : List Task) → ArePossible encoding front
    → possible_front encoding (front ++ more) ≡ front ++ possible_front encoding more
front-append encoding [] more h = refl
front-append encoding (task ∷ front) more h =
    front_by encoding task (front ++ more) true h.0 ∙ ap (λ (ts : List Task). task ∷ ts) (front-append encoding front more h.1)

pub refused-append : (encoding : EncodingSpec) (front more : List Task) → ArePossible encoding front
    → first_refused encoding (front ++ more) ≡ first_refused encoding more
refused-append encoding [] more h = refl
refused-append encoding (task ∷ front) more h = refused_by encoding task (front ++ more) true h.0 ∙ refused-append encoding front more h.1

-- ---- the end of a request

pub ends_done : (dir : List ℕ) (spec : Spec) (tasks : List Task) → ArePossible spec.encoding tasks
    → outcome_of_tasks dir spec tasks ≡ record { status = Done; text = built_line (length tasks); effects = effects_of dir spec tasks }
ends_done dir spec tasks h =
    let front : possible_front spec.encoding tasks ≡ tasks =
    ap (possible_front spec.encoding) (sym (append-nil tasks)) ∙ front-append spec.encoding tasks [] h ∙ append-nil tasks in
    let none : first_refused spec.encoding tasks ≡ None =
    ap (first_refused spec.encoding) (sym (append-nil tasks)) ∙ refused-append spec.encoding tasks [] h in
    let count : length (effects_of dir spec tasks) ≡ length tasks = length-map tasks _ in
    ap (λ (o : Option Task). ended_by spec.encoding o (effects_of dir spec (possible_front spec.encoding tasks))) none
    ∙ ap (λ (ts : List Task). ended_by spec.encoding None (effects_of dir spec ts)) front
    ∙ ap (λ (n : ℕ). let outcome : Outcome = record { status = Done; text = built_line n; effects = effects_of dir spec tasks } in outcome) count

pub ends_refused : (dir : List ℕ) (spec : Spec) (front : List Task) (task : Task) (rest : List Task) → ArePossible spec.encoding front
    → is_possible spec.encoding task ≡ false
    → outcome_of_tasks dir spec (front ++ task ∷ rest)
    ≡ record { status = bins_status spec.encoding task; text = line_of (bins_status spec.encoding task); effects = effects_of dir spec front }
ends_refused dir spec front task rest h e =
    let built : possible_front spec.encoding (front ++ task ∷ rest) ≡ front =
    front-append spec.encoding front (task ∷ rest) h ∙ ap (λ (ts : List Task). front ++ ts) (front_by spec.encoding task rest false e) ∙ append-nil front in
    let first : first_refused spec.encoding (front ++ task ∷ rest) ≡ Some task =
    refused-append spec.encoding front (task ∷ rest) h ∙ refused_by spec.encoding task rest false e in
    ap (λ (o : Option Task). ended_by spec.encoding o (effects_of dir spec (possible_front spec.encoding (front ++ task ∷ rest)))) first
    ∙ ap (λ (ts : List Task). ended_by spec.encoding (Some task) (effects_of dir spec ts)) built

-- ---- the world after tasks

after-append : (world : World) (effects more : List Effect) → after world (effects ++ more) ≡ after (after world effects) more
after-append world [] more = refl
after-append world (effect ∷ effects) more = after-append (after_one world effect) effects more

pub after-tasks : (dir : List ℕ) (spec : Spec) (world : World) (front more : List Task)
    → after world (effects_of dir spec (front ++ more)) ≡ after (after world (effects_of dir spec front)) (effects_of dir spec more)
after-tasks dir spec world front more =
    ap (after world) (map-append _ front more) ∙ after-append world (effects_of dir spec front) (effects_of dir spec more)

pub with-nothing : (dir : List ℕ) (spec : Spec) (world : World) (files : Option Files) → StandsFor files world → StandsWith dir spec world [] files
with-nothing dir spec world files h = record { possible = tt; stands = h }

pub with-more : (dir : List ℕ) (spec : Spec) (world : World) (front more : List Task) (mid files : Option Files)
    → StandsWith dir spec world front mid → StandsWith dir spec (after world (effects_of dir spec front)) more files
    → StandsWith dir spec world (front ++ more) files
with-more dir spec world front more mid files h k =
    record {
      possible = possible-append spec.encoding front more h.possible k.possible;
      stands = subst (StandsFor files) (sym (after-tasks dir spec world front more)) k.stands;
    }

-- what a step leaves, behind those before it and with others to come
pub leaves-more : (A B : Type 0) (dir : List ℕ) (spec : Spec) (world : World) (front more rest : List Task) (mid files : Option Files) (stop : Unanswered)
    → StandsWith dir spec world front mid
    → LeavesTasks {A = A} dir spec (after world (effects_of dir spec front)) more (Err stop) files
    → LeavesTasks {A = B} dir spec world (front ++ more ++ rest) (Err stop) files
leaves-more A B dir spec world front more rest mid files (Refused status) h k =
    record {
      front = front ++ k.front;
      task = k.task;
      rest = k.rest ++ rest;
      cut = ap (λ (ts : List Task). front ++ ts ++ rest) k.cut ∙ joined;
      built = with-more dir spec world front k.front mid files h k.built;
      impossible = k.impossible;
      is = k.is;
    }
  where
    joined : front ++ (k.front ++ k.task ∷ k.rest) ++ rest ≡ (front ++ k.front) ++ k.task ∷ (k.rest ++ rest)
    joined = append_assoc front (k.front ++ k.task ∷ k.rest) rest ∙ ap (λ (ts : List Task). front ++ ts) (append_assoc k.front (k.task ∷ k.rest) rest)
        ∙ sym (append_assoc front k.front (k.task ∷ (k.rest ++ rest)))
leaves-more A B dir spec world front more rest mid files StoreFault h k =
    record {
      front = front ++ k.front;
      rest = k.rest ++ rest;
      cut = ap (λ (ts : List Task). front ++ ts ++ rest) k.cut ∙ joined;
      built = with-more dir spec world front k.front mid files h k.built;
    }
  where
    joined : front ++ (k.front ++ k.rest) ++ rest ≡ (front ++ k.front) ++ (k.rest ++ rest)
    joined = append_assoc front (k.front ++ k.rest) rest ∙ ap (λ (ts : List Task). front ++ ts) (append_assoc k.front k.rest rest)
        ∙ sym (append_assoc front k.front (k.rest ++ rest))
leaves-more A B dir spec world front more rest mid files OutOfMemory h k =
    record {
      front = front ++ k.front;
      rest = k.rest ++ rest;
      cut = ap (λ (ts : List Task). front ++ ts ++ rest) k.cut ∙ joined;
      built = with-more dir spec world front k.front mid files h k.built;
    }
  where
    joined : front ++ (k.front ++ k.rest) ++ rest ≡ (front ++ k.front) ++ (k.rest ++ rest)
    joined = append_assoc front (k.front ++ k.rest) rest ∙ ap (λ (ts : List Task). front ++ ts) (append_assoc k.front k.rest rest)
        ∙ sym (append_assoc front k.front (k.rest ++ rest))

-- ---- a request, of its tasks

pub tasks-count : (spec : Spec) (schema : List Column) (cols : List ℕ) (parts : List Partition)
    → length (tasks_in spec schema cols parts) ≡ length parts * length cols
tasks-count spec schema cols [] = omega arith
tasks-count spec schema cols (part ∷ parts) =
    let first : length (part_tasks spec schema cols part) ≡ length cols = length-map cols _ in
    let more = tasks-count spec schema cols parts in
    let both : length (part_tasks spec schema cols part ++ tasks_in spec schema cols parts)
    ≡ length (part_tasks spec schema cols part) + length (tasks_in spec schema cols parts) =
    length-append (part_tasks spec schema cols part) (tasks_in spec schema cols parts) in
    omega (arith, first, more, both)

effects-are : (dir : List ℕ) (spec : Spec) (tasks : List Task) (o : Option Task)
    → (ended_by spec.encoding o (effects_of dir spec (possible_front spec.encoding tasks))).effects ≡ effects_of dir spec (possible_front spec.encoding tasks)
effects-are dir spec tasks None = refl
effects-are dir spec tasks (Some task) = refl

stopped-within : (dir : List ℕ) (spec : Spec) (world : World) (tasks : List Task) (files : Option Files) → EndsStopped dir spec world tasks files
    → StandsWithin (outcome_of_tasks dir spec tasks).effects world files
stopped-within dir spec world tasks files h =
    record {
      count = length h.front;
      within = omega (arith, ap length effects, length-append (effects_of dir spec h.front) (effects_of dir spec (possible_front spec.encoding h.rest)), size);
      stands = subst (λ (es : List Effect). StandsFor files (after world es)) (sym (ap (take (length h.front)) effects ∙ seam)) h.built.stands;
    }
  where
    size : length (effects_of dir spec h.front) ≡ length h.front
    size = length-map h.front _

    effects : (outcome_of_tasks dir spec tasks).effects ≡ effects_of dir spec h.front ++ effects_of dir spec (possible_front spec.encoding h.rest)
    effects = effects-are dir spec tasks (first_refused spec.encoding tasks) ∙ ap (λ (ts : List Task). effects_of dir spec (possible_front spec.encoding ts)) h.cut
        ∙ ap (effects_of dir spec) (front-append spec.encoding h.front h.rest h.built.possible) ∙ map-append _ h.front (possible_front spec.encoding h.rest)

    seam : take (length h.front) (effects_of dir spec h.front ++ effects_of dir spec (possible_front spec.encoding h.rest)) ≡ effects_of dir spec h.front
    seam = ap (λ (n : ℕ). take n (effects_of dir spec h.front ++ effects_of dir spec (possible_front spec.encoding h.rest))) (sym size)
        ∙ take-append_seam (effects_of dir spec h.front) (effects_of dir spec (possible_front spec.encoding h.rest))

pub built-done : {A : Type 0} (dir : List ℕ) (spec : Spec) (world : World) (tasks : List Task) (done : A) (count : ℕ) (files : Option Files)
    → LeavesTasks dir spec world tasks (Ok done) files → count ≡ length tasks → LeavesBuilt (outcome_of_tasks dir spec tasks) world (Ok count) files
built-done dir spec world tasks done count files h e =
    let is = ends_done dir spec tasks h.possible in
    subst (λ (o : Outcome). LeavesBuilt o world (Ok count) files) (sym is) (refl, e ∙ sym (length-map tasks _), h.stands)

pub built-stopped : (A : Type 0) (dir : List ℕ) (spec : Spec) (world : World) (tasks : List Task) (stop : Unanswered) (files : Option Files)
    → LeavesTasks {A = A} dir spec world tasks (Err stop) files → LeavesBuilt (outcome_of_tasks dir spec tasks) world (Err stop) files
built-stopped A dir spec world tasks (Refused status) files h =
    let is : outcome_of_tasks dir spec tasks
    ≡ record { status = bins_status spec.encoding h.task; text = line_of (bins_status spec.encoding h.task); effects = effects_of dir spec h.front } =
    ap (outcome_of_tasks dir spec) h.cut ∙ ends_refused dir spec h.front h.task h.rest h.built.possible h.impossible in
    subst (λ (o : Outcome). LeavesBuilt o world (Err (Refused status)) files) (sym is) (sym h.is, h.built.stands)
built-stopped A dir spec world tasks StoreFault files h = stopped-within dir spec world tasks files h
built-stopped A dir spec world tasks OutOfMemory files h = stopped-within dir spec world tasks files h
