-- What the steps of a request for indexes come to together.
use Rattle.std.proofs.Common.{◌≡◌, ◌+◌, ◌*◌, ◌<◌, ◌≤◌, inl, inr, ℕ, zero, suc, Bool, true, List, [], ◌∷◌, ◌++◌, length, map, take, drop, get_or, Option, Some, None, IfSome, is_some, Result, Ok, Err, refl, sym, ap, subst, ◌∙◌, arith, append_assoc, append-nil}
use Rattle.std.specs.List.{flat_map, slice_get}
use Rattle.std.specs.Prelude.{IfErr, IfOk}
use Rattle.std.proofs.lemmas.Grind.{flat_map-append}
use Rattle.std.proofs.lemmas.List.{drop_more, length-map, map-append, take-append-drop, take_all, take_more}
use Rattle.std.proofs.lemmas.Option.{get_or_from_slice_get, slice_get_read, slice_get_within}
use Rattle.fb_outside.specs.Files.{ChangesAmong, Files, SameFiles}
use Rattle.fb_outside.specs.Names.{IsPath}
use Rattle.fb_outside.specs.Reads.{AddsOnly, Look}
use Rattle.fb_outside.proofs.ReadLemmas.{AddsOnly-trans, AddsOnly-weaken}
use Rattle.fb_types.specs.declared.schemas.Column.{Column}
use Rattle.fb_types.specs.Schemas.{IsSchema}
use Rattle.index_spec.specs.Language.{spec_of}
use Rattle.index_spec.specs.declared.spec.Spec.{Spec}
use Rattle.index_spec.specs.declared.spec.SpecKind.{SpecKind}
use Rattle.part_meta.specs.declared.part.PartMeta.{PartMeta}
use Rattle.world.specs.Effects.{after}
use Rattle.world.specs.PartFiles.{part_data}
use Rattle.world.specs.Stands.{Stands, StandsFor}
use Rattle.world.specs.World.{Content, Partition, World, content_at}
use Rattle.dataset.specs.Found.{Absent, Broken, Found, IsFound, There, dataset_in, found_by, found_in}
use Rattle.dataset.specs.Opened.{IsTextLook}
use Rattle.dataset.specs.declared.content.Dataset.{Dataset}
use Rattle.dataset.proofs.ListLemmas.{map-at}
use Rattle.dataset.proofs.SameLemmas.{same_dataset}
use Rattle.dataset.proofs.WorldLemmas.{found_is}
use Rattle.index_build.specs.Build.{IsColumnLook}
use Rattle.statuses.specs.declared.Status.{Status}
use Rattle.statuses.specs.declared.Status.TheVariants.{BadSpec}
use Rattle.statuses.specs.declared.stop.Unanswered.{Unanswered}
use Rattle.statuses.specs.declared.stop.Unanswered.TheVariants.{Refused, StoreFault, OutOfMemory}
use Rattle.statuses.specs.Opening.{Finds, Opened, dataset_or_refusal}
use Rattle.statuses.specs.Outcome.{◌>>=◌, Outcome}
use Rattle.ibis_build.specs.Builds.{Asked, Task, asked_of, build_outcome, effects_of, outcome_by, outcome_of_tasks, part_tasks, spec_or_refusal, task_in, tasks_in}
use Rattle.ibis_build.specs.Causes.{AreAllSound, BuildChanges, BuildComes, BuildGives, BuildKeeps, BuildPuts, BuildsBy, HasIndexes, IsIndexName, IsRefused, RefusesBy, StopsIn}
use Rattle.ibis_build.specs.Columns.{chosen_columns}
use Rattle.ibis_build.specs.Leaves.{LeavesBuilt, LeavesTasks, StandsWith}
use Rattle.ibis_build.specs.Looks.{IsAskedLook, IsBuildLook, IsLookAmong}
use Rattle.ibis_build.proofs.ColumnLemmas.{asked-name}
use Rattle.ibis_build.proofs.TaskLemmas.{built-done, built-stopped, leaves-more, tasks-count, with-more}
use Rattle.ibis_build.proofs.WorldLemmas.{content-after}

-- ---- one step behind others

-- what a step promises of the columns at these places, in one part
abbrev Step : (A : Type 0) → (dir : List ℕ) → Spec → List Column → PartMeta → List ℕ → Option Files → Result A Unanswered → Option Files → Type 0
Step A dir spec schema part cols mid r new =
    (world : World) (content : Content) (place : ℕ) (p : Partition) → StandsFor mid world → content_at world dir ≡ Some content
    → slice_get content.parts place ≡ Some p → content.schema ≡ schema → part ≡ part_data content.schema p
    → LeavesTasks dir spec world (part_tasks spec content.schema cols p) r new

pub behind-front : {A : Type 0} (dir : List ℕ) (spec : Spec) (world : World) (content : Content) (place : ℕ) (p : Partition) (schema : List Column)
    (part : PartMeta) (cols : List ℕ) (front : List Task) (mid new : Option Files) (r : Result A Unanswered)
    → content_at world dir ≡ Some content → slice_get content.parts place ≡ Some p → content.schema ≡ schema → part ≡ part_data content.schema p
    → StandsWith dir spec world front mid → Step A dir spec schema part cols mid r new
    → LeavesTasks dir spec (after world (effects_of dir spec front)) (part_tasks spec content.schema cols p) r new
behind-front {A = A} dir spec world content place p schema part cols front mid new r there listed same is before step =
    let kept = content-after dir spec world front content there in
    let at = kept.same.parts place p listed in
    let now : Partition = record p { specs = at.0 } in
    let raw : LeavesTasks dir spec (after world (effects_of dir spec front)) (part_tasks spec kept.content.schema cols now) r new =
    step (after world (effects_of dir spec front)) kept.content place now before.stands kept.there at.1 (kept.same.schema ∙ same)
    (is ∙ ap (λ (s : List Column). part_data s p) (sym kept.same.schema)) in
    subst (λ (s : List Column). LeavesTasks dir spec (after world (effects_of dir spec front)) (part_tasks spec s cols p) r new) kept.same.schema raw

-- ---- one more of a list

pub split-at : {X : Type 0} (xs : List X) (k : ℕ) (x : X) → slice_get xs k ≡ Some x → xs ≡ take k xs ++ x ∷ drop (k + 1) xs
split-at {X = X} xs k x e =
    sym (take-append-drop k xs)
    ∙ ap (λ (ys : List X). take k xs ++ ys)
    (drop_more xs k x (slice_get_within xs k x e) ∙ ap (λ y. y ∷ drop (k + 1) xs) (get_or_from_slice_get xs k x x e))

pub take-at : {X : Type 0} (xs : List X) (k : ℕ) (x : X) → slice_get xs k ≡ Some x → take (k + 1) xs ≡ take k xs ++ x ∷ []
take-at xs k x e =
    take_more xs k x (slice_get_within xs k x e) ∙ ap (λ y. take k xs ++ y ∷ []) (get_or_from_slice_get xs k x x e)

module _ (dir : List ℕ) (spec : Spec) (world : World) (content : Content) (place : ℕ) (p : Partition) (schema : List Column) (part : PartMeta)
    (cols : List ℕ) (k col : ℕ) (mid new : Option Files) (there : content_at world dir ≡ Some content)
    (listed : slice_get content.parts place ≡ Some p) (same : content.schema ≡ schema) (is : part ≡ part_data content.schema p)
    (at : slice_get cols k ≡ Some col)
    (before : StandsWith dir spec world (part_tasks spec content.schema (take k cols) p) mid) where
  abbrev tasks : List ℕ → List Task
  tasks cs = part_tasks spec content.schema cs p

  pub next-column : (r : Result (Unit {0}) Unanswered) (done : Unit {0}) → r ≡ Ok done → Step (Unit {0}) dir spec schema part (col ∷ []) mid r new
      → StandsWith dir spec world (tasks (take (k + 1) cols)) new
  next-column r done ok step =
      let one = behind-front dir spec world content place p schema part (col ∷ []) (tasks (take k cols)) mid new r there listed same is before step in
      let both : StandsWith dir spec (after world (effects_of dir spec (tasks (take k cols)))) (tasks (col ∷ [])) new =
      subst (λ (x : Result (Unit {0}) Unanswered). LeavesTasks dir spec (after world (effects_of dir spec (tasks (take k cols)))) (tasks (col ∷ [])) x new) ok one in
      subst (λ (ts : List Task). StandsWith dir spec world ts new)
      (sym (ap tasks (take-at cols k col at) ∙ map-append _ (take k cols) (col ∷ [])))
      (with-more dir spec world (tasks (take k cols)) (tasks (col ∷ [])) mid new before both)

  pub column-stops : (r : Result (Unit {0}) Unanswered) (stop : Unanswered) → r ≡ Err stop → Step (Unit {0}) dir spec schema part (col ∷ []) mid r new
      → LeavesTasks {A = Unit {0}} dir spec world (tasks cols) (Err stop) new
  column-stops r stop err step =
      let one = behind-front dir spec world content place p schema part (col ∷ []) (tasks (take k cols)) mid new r there listed same is before step in
      let last : LeavesTasks {A = Unit {0}} dir spec (after world (effects_of dir spec (tasks (take k cols)))) (tasks (col ∷ [])) (Err stop) new =
      subst (λ (x : Result (Unit {0}) Unanswered). LeavesTasks dir spec (after world (effects_of dir spec (tasks (take k cols)))) (tasks (col ∷ [])) x new) err one in
      let cut : tasks cols ≡ tasks (take k cols) ++ tasks (col ∷ []) ++ tasks (drop (k + 1) cols) =
      ap tasks (split-at cols k col at) ∙ map-append _ (take k cols) (col ∷ drop (k + 1) cols)
      ∙ sym (append_assoc (tasks (take k cols)) (tasks (col ∷ [])) (tasks (drop (k + 1) cols))) in
      subst (λ (ts : List Task). LeavesTasks {A = Unit {0}} dir spec world ts (Err stop) new) (sym cut)
      (leaves-more (Unit {0}) (Unit {0}) dir spec world (tasks (take k cols)) (tasks (col ∷ [])) (tasks (drop (k + 1) cols)) mid new stop before last)

module _ (dir : List ℕ) (spec : Spec) (world : World) (content : Content) (p : Partition) (schema : List Column) (part : PartMeta)
    (cols : List ℕ) (k : ℕ) (mid new : Option Files) (there : content_at world dir ≡ Some content)
    (listed : slice_get content.parts k ≡ Some p) (same : content.schema ≡ schema) (is : part ≡ part_data content.schema p)
    (before : StandsWith dir spec world (tasks_in spec content.schema cols (take k content.parts)) mid) where
  abbrev all : List Partition → List Task
  all ps = tasks_in spec content.schema cols ps

  abbrev here : List Task
  here = part_tasks spec content.schema cols p

  pub next-part : (r : Result (Unit {0}) Unanswered) (done : Unit {0}) → r ≡ Ok done → Step (Unit {0}) dir spec schema part cols mid r new
      → StandsWith dir spec world (all (take (k + 1) content.parts)) new
  next-part r done ok step =
      let one = behind-front dir spec world content k p schema part cols (all (take k content.parts)) mid new r there listed same is before step in
      let both : StandsWith dir spec (after world (effects_of dir spec (all (take k content.parts)))) here new =
      subst (λ (x : Result (Unit {0}) Unanswered). LeavesTasks dir spec (after world (effects_of dir spec (all (take k content.parts)))) here x new) ok one in
      subst (λ (ts : List Task). StandsWith dir spec world ts new)
      (sym (ap all (take-at content.parts k p listed) ∙ flat_map-append _ (take k content.parts) (p ∷ [])
      ∙ ap (λ (ts : List Task). all (take k content.parts) ++ ts) (append-nil here)))
      (with-more dir spec world (all (take k content.parts)) here mid new before both)

  pub part-stops : (r : Result (Unit {0}) Unanswered) (stop : Unanswered) → r ≡ Err stop → Step (Unit {0}) dir spec schema part cols mid r new
      → LeavesTasks {A = Unit {0}} dir spec world (all content.parts) (Err stop) new
  part-stops r stop err step =
      let one = behind-front dir spec world content k p schema part cols (all (take k content.parts)) mid new r there listed same is before step in
      let last : LeavesTasks {A = Unit {0}} dir spec (after world (effects_of dir spec (all (take k content.parts)))) here (Err stop) new =
      subst (λ (x : Result (Unit {0}) Unanswered). LeavesTasks dir spec (after world (effects_of dir spec (all (take k content.parts)))) here x new) err one in
      let cut : all content.parts ≡ all (take k content.parts) ++ here ++ all (drop (k + 1) content.parts) =
      ap all (split-at content.parts k p listed) ∙ flat_map-append _ (take k content.parts) (p ∷ drop (k + 1) content.parts)
      ∙ sym (append_assoc (all (take k content.parts)) here (all (drop (k + 1) content.parts))) in
      subst (λ (ts : List Task). LeavesTasks {A = Unit {0}} dir spec world ts (Err stop) new) (sym cut)
      (leaves-more (Unit {0}) (Unit {0}) dir spec world (all (take k content.parts)) here (all (drop (k + 1) content.parts)) mid new stop before last)

-- ---- what is asked

asked-unspelled : (dir text : List ℕ) (list : Option (List ℕ)) (found : Found) (status : Status) → spec_or_refusal (spec_of text) ≡ Err status
    → asked_of dir text list found ≡ Err status
unfolding asked_of
asked-unspelled dir text list found status e = rw e refl

asked-unopened : (dir text : List ℕ) (list : Option (List ℕ)) (found : Found) (spec : Spec) (status : Status) → spec_of text ≡ Ok spec
    → dataset_or_refusal dir found ≡ Err status → asked_of dir text list found ≡ Err status
unfolding asked_of
asked-unopened dir text list found spec status e h = rw (e, h) refl

asked-unnamed : (dir text : List ℕ) (list : Option (List ℕ)) (dataset : Dataset) (spec : Spec) (status : Status) → spec_of text ≡ Ok spec
    → chosen_columns dataset.schema list ≡ Err status → asked_of dir text list (There dataset) ≡ Err status
unfolding asked_of
asked-unnamed dir text list dataset spec status e h = rw (e, h) refl

asked-there : (dir text : List ℕ) (list : Option (List ℕ)) (dataset : Dataset) (spec : Spec) (cols : List ℕ) → spec_of text ≡ Ok spec
    → chosen_columns dataset.schema list ≡ Ok cols → asked_of dir text list (There dataset) ≡ Ok (record { spec = spec; cols = cols })
unfolding asked_of
asked-there dir text list dataset spec cols e h = rw (e, h) refl

is_there : (dir : List ℕ) (found : Found) (dataset : Dataset) → dataset_or_refusal dir found ≡ Ok dataset → found ≡ There dataset
is_there dir Absent dataset e = absurd (cc)
is_there dir (There d) dataset e = let same : d ≡ dataset = cc in ap There same
is_there dir (Broken damage) dataset e = absurd (cc)

-- ---- a request that is refused before it builds

module _ (dir text : List ℕ) (list : Option (List ℕ)) (old new : Option Files) (same : SameFiles old new) where
  comes-refused : (found : Found) (status : Status) → IfOk (spec_of text) (λ spec. IfSome old (λ m. IsFound m dir found))
      → asked_of dir text list found ≡ Err status → BuildComes dir text list old (Err status)
  comes-refused found status told e =
      record { found = found; told = told; builds = subst (λ (r : Result Asked Status). BuildsBy old found r (Err status)) (sym e) refl }

  stays : (world : World) → StandsFor old world → StandsFor new world
  stays world h = subst (λ (o : Option Files). StandsFor o world) (sym same) h

  outcome-refused : (world : World) (status : Status) → StandsFor old world → asked_of dir text list (found_in world dir) ≡ Err status
      → LeavesBuilt (build_outcome dir text list world) world (Err (Refused status)) new
  outcome-refused world status h e =
      subst (λ (r : Result Asked Status). LeavesBuilt (outcome_by dir r (content_at world dir)) world (Err (Refused status)) new) (sym e) (refl, stays world h)

  -- it stopped before any index was put
  pub stops-early : (world : World) (stop : Unanswered) → ((status : Status) → stop ≡ Refused status → asked_of dir text list (found_in world dir) ≡ Err status)
      → StandsFor old world → LeavesBuilt (build_outcome dir text list world) world (Err stop) new
  stops-early world (Refused status) f h = outcome-refused world status h (f status refl)
  stops-early world StoreFault f h = record { count = 0; within = omega arith; stands = stays world h }
  stops-early world OutOfMemory f h = record { count = 0; within = omega arith; stands = stays world h }

  -- ---- by its text

  pub text-gives : (stop : Unanswered) → RefusesBy (spec_or_refusal (spec_of text)) stop → BuildGives dir text list old (Err stop)
  text-gives (Refused status) e = comes-refused Absent status (unread (spec_of text) e) (asked-unspelled dir text list Absent status e)
    where
      unread : (r : Result Spec SpecKind) → spec_or_refusal r ≡ Err status → IfOk r (λ spec. IfSome old (λ m. IsFound m dir Absent))
      unread (Ok spec) h = absurd (cc)
      unread (Err kind) h = tt
  text-gives StoreFault e = tt
  text-gives OutOfMemory e = tt

  pub text-leaves : (stop : Unanswered) → RefusesBy (spec_or_refusal (spec_of text)) stop → (world : World) → StandsFor old world
      → LeavesBuilt (build_outcome dir text list world) world (Err stop) new
  text-leaves (Refused status) e world h =
      stops-early world (Refused status) (λ s is. asked-unspelled dir text list (found_in world dir) s (e ∙ ap Err (let t : status ≡ s = cc in t))) h
  text-leaves StoreFault e world h = stops-early world StoreFault (λ s is. absurd (cc)) h
  text-leaves OutOfMemory e world h = stops-early world OutOfMemory (λ s is. absurd (cc)) h

  -- ---- by what the path has

  module _ (spec : Spec) (read : spec_of text ≡ Ok spec) (path : IsPath dir) where
    when_read : (P : Type 0) → P → IfOk (spec_of text) (λ (s : Spec). P)
    when_read P h = subst (λ (r : Result Spec SpecKind). IfOk r (λ (s : Spec). P)) (sym read) h

    in_world : (world : World) (found : Found) → StandsFor old world → IfSome old (λ m. IsFound m dir found) → found ≡ found_in world dir
    in_world world found h told = by old refl h told
      where
        by : (o : Option Files) → old ≡ o → StandsFor o world → IfSome o (λ m. IsFound m dir found) → found ≡ found_in world dir
        by None e k t = absurd k
        by (Some m) e k t = found_is m world dir found k path t

    pub opening-gives : (stop : Unanswered) → Finds dir old (Err stop) → BuildGives dir text list old (Err stop)
    opening-gives (Refused status) h =
        comes-refused h.found status (when_read (IfSome old (λ m. IsFound m dir h.found)) h.told) (asked-unopened dir text list h.found spec status read h.is)
    opening-gives StoreFault h = tt
    opening-gives OutOfMemory h = tt

    pub opening-leaves : (stop : Unanswered) → Finds dir old (Err stop) → (world : World) → StandsFor old world
        → LeavesBuilt (build_outcome dir text list world) world (Err stop) new
    opening-leaves (Refused status) f world h =
        stops-early world (Refused status)
        (λ s is.
        let t : status ≡ s = cc in
        ap (asked_of dir text list) (sym (in_world world f.found h f.told)) ∙ asked-unopened dir text list f.found spec s read (f.is ∙ ap Err t)) h
    opening-leaves StoreFault f world h = stops-early world StoreFault (λ s is. absurd (cc)) h
    opening-leaves OutOfMemory f world h = stops-early world OutOfMemory (λ s is. absurd (cc)) h

    -- ---- by its list of columns

    module _ (dataset : Dataset) (finds : Finds dir old (Ok dataset)) where
      told_there : IfSome old (λ m. IsFound m dir (There dataset))
      told_there = subst (λ (f : Found). IfSome old (λ m. IsFound m dir f)) (is_there dir finds.found dataset finds.is) finds.told

      pub names-give : (stop : Unanswered) → RefusesBy (chosen_columns dataset.schema list) stop → BuildGives dir text list old (Err stop)
      names-give (Refused status) e =
          comes-refused (There dataset) status (when_read (IfSome old (λ m. IsFound m dir (There dataset))) told_there)
          (asked-unnamed dir text list dataset spec status read e)
      names-give StoreFault e = tt
      names-give OutOfMemory e = tt

      pub names-leave : (stop : Unanswered) → RefusesBy (chosen_columns dataset.schema list) stop → (world : World) → StandsFor old world
          → LeavesBuilt (build_outcome dir text list world) world (Err stop) new
      names-leave (Refused status) e world h =
          stops-early world (Refused status)
          (λ s is.
          let t : status ≡ s = cc in
          ap (asked_of dir text list) (sym (in_world world (There dataset) h told_there)) ∙ asked-unnamed dir text list dataset spec s read (e ∙ ap Err t)) h
      names-leave StoreFault e world h = stops-early world StoreFault (λ s is. absurd (cc)) h
      names-leave OutOfMemory e world h = stops-early world OutOfMemory (λ s is. absurd (cc)) h

-- the texts of the dataset alone
pub text-looks : (dir : List ℕ) (list : Option (List ℕ)) (old new : Option (List Look)) → AddsOnly (IsTextLook dir) old new → AddsOnly (IsBuildLook dir list) old new
text-looks dir list old new h = AddsOnly-weaken (IsTextLook dir) (IsBuildLook dir list) old new (λ look w. inl w) h

-- ---- a request that builds

record IsIn (world : World) (dir : List ℕ) (dataset : Dataset) : Type 0 where
  pub content : Content
  pub there : content_at world dir ≡ Some content
  pub is : dataset ≡ dataset_in dir content

is_in : (world : World) (dir : List ℕ) (dataset : Dataset) → There dataset ≡ found_in world dir → IsIn world dir dataset
is_in world dir dataset e = by (content_at world dir) refl
  where
    by : (o : Option Content) → content_at world dir ≡ o → IsIn world dir dataset
    by None h = let bad : There dataset ≡ Absent = e ∙ ap (found_by dir) h in absurd (cc)
    by (Some content) h =
        let same : There dataset ≡ There (dataset_in dir content) = e ∙ ap (found_by dir) h in
        record { content = content; there = h; is = cc }

ok_asked : (r : Result Asked Status) (a b : Asked) → r ≡ Ok a → r ≡ Ok b → a ≡ b
ok_asked r a b e h = cc

module _ (dir text : List ℕ) (list : Option (List ℕ)) (old : Option Files) (spec : Spec) (read : spec_of text ≡ Ok spec) (path : IsPath dir)
    (dataset : Dataset) (finds : Finds dir old (Ok dataset)) (at : dataset.dir ≡ dir) (cols : List ℕ)
    (chosen : chosen_columns dataset.schema list ≡ Ok cols) where
  abbrev asked : Asked
  asked = record { spec = spec; cols = cols }

  told : IfSome old (λ m. IsFound m dir (There dataset))
  told = subst (λ (f : Found). IfSome old (λ m. IsFound m dir f)) (is_there dir finds.found dataset finds.is) finds.told

  asks : asked_of dir text list (There dataset) ≡ Ok asked
  asks = asked-there dir text list dataset spec cols read chosen

  comes : (result : Result ℕ Status) → BuildsBy old (There dataset) (Ok asked) result → BuildComes dir text list old result
  comes result h =
      record {
        found = There dataset;
        told = subst (λ (r : Result Spec SpecKind). IfOk r (λ (s : Spec). IfSome old (λ m. IsFound m dir (There dataset)))) (sym read) told;
        builds = subst (λ (r : Result Asked Status). BuildsBy old (There dataset) r result) (sym asks) h;
      }

  pub build-gives : (mid : Option Files) (count : ℕ) → mid ≡ old → count ≡ length dataset.parts * length cols → AreAllSound mid dataset cols
      → BuildGives dir text list old (Ok count)
  build-gives mid count same e sound = comes (Ok count) (e, subst (λ (o : Option Files). AreAllSound o dataset cols) same sound)

  pub build-stops : (mid : Option Files) (stop : Unanswered) → mid ≡ old → StopsIn mid dataset asked stop → BuildGives dir text list old (Err stop)
  build-stops mid (Refused status) same h = comes (Err status) (subst (λ (o : Option Files). IsRefused o dataset asked status) same h)
  build-stops mid StoreFault same h = tt
  build-stops mid OutOfMemory same h = tt

  pub build-keeps : (mid new : Option Files) → mid ≡ old → ChangesAmong (IsIndexName dataset cols) mid new → BuildKeeps dir text list old new
  build-keeps mid new same h =
      inr (record {
        dataset = dataset;
        asked = asked;
        told = told;
        asks = asks;
        changes = subst (λ (o : Option Files). ChangesAmong (IsIndexName dataset cols) o new) same h;
      })

  pub build-looks : (before mid new : Option (List Look)) → IsSchema dataset.schema → AddsOnly (IsTextLook dir) before mid
      → AddsOnly (IsLookAmong dataset cols) mid new → AddsOnly (IsBuildLook dir list) before new
  build-looks before mid new valid h k =
      AddsOnly-trans (IsBuildLook dir list) before mid new
      (AddsOnly-weaken (IsTextLook dir) (IsBuildLook dir list) before mid (λ look w. inl w) h)
      (AddsOnly-weaken (IsLookAmong dataset cols) (IsBuildLook dir list) mid new
      (λ look w.
      inr (record {
        column = w.column;
        asked = asked-name dataset.schema list cols w.column valid chosen w.among;
        file = subst (λ (d : List ℕ). IsColumnLook d w.column look) at w.file;
      })) k)

  -- what is built is there, of the dataset that the path has
  pub build-puts : (mid new : Option Files) → mid ≡ old → HasIndexes mid dataset asked new → BuildPuts dir text list old new
  build-puts mid new same h dataset' asked' there asks' place part listed m column mask numbers at' among has =
      moved place part listed m column mask numbers at' among has
    where
      is : dataset ≡ dataset'
      is =
          same_dataset m dir dataset dataset' (subst (λ (o : Option Files). IfSome o (λ n. IsFound n dir (There dataset))) at' told)
          (subst (λ (o : Option Files). IfSome o (λ n. IsFound n dir (There dataset'))) at' there)

      alike : asked ≡ asked'
      alike =
          ok_asked (asked_of dir text list (There dataset')) asked asked'
          (ap (λ (d : Dataset). asked_of dir text list (There d)) (sym is) ∙ asks) asks'

      moved : HasIndexes old dataset' asked' new
      moved =
          subst (λ (o : Option Files). HasIndexes o dataset' asked' new) same
          (subst (λ (a : Asked). HasIndexes mid dataset' a new) alike (subst (λ (d : Dataset). HasIndexes mid d asked new) is h))

  module _ (mid new : Option Files) (same : mid ≡ old) (world : World) (h : StandsFor old world) where
    path-has : There dataset ≡ found_in world dir
    path-has = by old refl h told
      where
        by : (o : Option Files) → old ≡ o → StandsFor o world → IfSome o (λ m. IsFound m dir (There dataset)) → There dataset ≡ found_in world dir
        by None e k t = absurd k
        by (Some m) e k t = found_is m world dir (There dataset) k path t

    found : IsIn world dir dataset
    found = is_in world dir dataset path-has

    abbrev wanted : List Task
    wanted = tasks_in spec found.content.schema cols found.content.parts

    outcome : build_outcome dir text list world ≡ outcome_of_tasks dir spec wanted
    outcome =
        ap (λ (f : Found). outcome_by dir (asked_of dir text list f) (content_at world dir)) (sym path-has)
        ∙ ap (λ (r : Result Asked Status). outcome_by dir r (content_at world dir)) asks
        ∙ ap (outcome_by dir (Ok asked)) found.there

    abbrev Whole : (A : Type 0) → Result A Unanswered → Type 0
    Whole A r =
        (w : World) (content : Content) → StandsFor mid w → content_at w dataset.dir ≡ Some content → dataset ≡ dataset_in dataset.dir content
        → LeavesTasks dataset.dir spec w (tasks_in spec content.schema cols content.parts) r new

    left : {A : Type 0} (r : Result A Unanswered) → Whole A r → LeavesTasks dir spec world wanted r new
    left r step =
        subst (λ (d : List ℕ). LeavesTasks d spec world wanted r new) at
        (step world found.content (subst (λ (o : Option Files). StandsFor o world) (sym same) h)
        (ap (content_at world) at ∙ found.there) (found.is ∙ ap (λ (d : List ℕ). dataset_in d found.content) (sym at)))

    pub build-done : {A : Type 0} (r : Result A Unanswered) (done : A) (count : ℕ) → r ≡ Ok done → count ≡ length dataset.parts * length cols → Whole A r
        → LeavesBuilt (build_outcome dir text list world) world (Ok count) new
    build-done {A = A} r done count ok e step =
        let parts : length dataset.parts ≡ length found.content.parts = ap (λ (d : Dataset). length d.parts) found.is ∙ length-map found.content.parts _ in
        let size : count ≡ length wanted =
        e ∙ ap (λ (n : ℕ). n * length cols) parts ∙ sym (tasks-count spec found.content.schema cols found.content.parts) in
        subst (λ (o : Outcome). LeavesBuilt o world (Ok count) new) (sym outcome)
        (built-done dir spec world wanted done count new
        (subst (λ (x : Result A Unanswered). LeavesTasks dir spec world wanted x new) ok (left r step)) size)

    pub build-cut : {A : Type 0} (r : Result A Unanswered) (stop : Unanswered) → r ≡ Err stop → Whole A r
        → LeavesBuilt (build_outcome dir text list world) world (Err stop) new
    build-cut {A = A} r stop err step =
        subst (λ (o : Outcome). LeavesBuilt o world (Err stop) new) (sym outcome)
        (built-stopped A dir spec world wanted stop new
        (subst (λ (x : Result A Unanswered). LeavesTasks dir spec world wanted x new) err (left r step)))

-- ---- the parts of a dataset

-- a part that is looked at is one of the dataset
pub part-at : (dataset : Dataset) (items : List PartMeta) (k : ℕ) (part : PartMeta) → items ≡ dataset.parts → k < length items
    → part ≡ get_or items k part → slice_get dataset.parts k ≡ Some part
part-at dataset items k part same less is =
    subst (λ (xs : List PartMeta). slice_get xs k ≡ Some part) same (slice_get_read items (length items) k part refl less is)

-- and of the content that the dataset is of
pub record IsPartIn (dataset : Dataset) (content : Content) (k : ℕ) (part : PartMeta) : Type 0 where
  pub from : Partition
  pub at : slice_get content.parts k ≡ Some from
  pub same : content.schema ≡ dataset.schema
  pub is : part ≡ part_data content.schema from

pub part-in : (dataset : Dataset) (content : Content) (k : ℕ) (part : PartMeta) → dataset ≡ dataset_in dataset.dir content
    → slice_get dataset.parts k ≡ Some part → IsPartIn dataset content k part
part-in dataset content k part is listed =
    let found = map-at (part_data content.schema) content.parts k part (ap (λ (d : Dataset). slice_get d.parts k) (sym is) ∙ listed) in
    record { from = found.from; at = found.at; same = ap (λ (d : Dataset). d.schema) (sym is); is = sym found.is }
