-- Where the files stand for a world, a listing is that of its dataset.
use Rattle.std.proofs.Common.{◌≡◌, ◌+◌, ◌<◌, ◌≤◌, ℕ, zero, suc, List, [], ◌∷◌, map, Option, Some, None, IfSome, Result, Ok, Err, IfOk, refl, sym, ap, subst, ◌∙◌, arith}
use Rattle.std.specs.FinMap.{get}
use Rattle.std.specs.List.{AllByRecursion, slice_get}
use Rattle.fb_outside.specs.Files.{Files}
use Rattle.fb_outside.specs.Names.{IsPath}
use Rattle.fb_types.specs.declared.schemas.Column.{Column}
use Rattle.index_spec.specs.declared.spec.Spec.{Spec}
use Rattle.index_file.specs.declared.fault.IndexFault.{IndexFault}
use Rattle.part_meta.specs.declared.part.PartMeta.{PartMeta}
use Rattle.world.specs.PartFiles.{part_data}
use Rattle.world.specs.Stands.{Stands, StandsFor}
use Rattle.world.specs.World.{Content, Partition, World, content_at}
use Rattle.dataset.specs.Damage.{Damage}
use Rattle.dataset.specs.Found.{Found, IsFound, There, dataset_in, found_by, found_in}
use Rattle.dataset.specs.PartIndexes.{index_at}
use Rattle.dataset.specs.declared.content.Dataset.{Dataset}
use Rattle.dataset.proofs.ListLemmas.{map-at}
use Rattle.dataset.proofs.WorldLemmas.{found_is}
use Rattle.statuses.specs.declared.Status.{Status}
use Rattle.statuses.specs.declared.stop.Unanswered.{Unanswered}
use Rattle.statuses.specs.declared.stop.Unanswered.TheVariants.{Refused, StoreFault, OutOfMemory}
use Rattle.statuses.specs.Opening.{dataset_or_refusal}
use Rattle.statuses.specs.Outcome.{◌>>=◌}
use Rattle.ibis.specs.Indexes.{AreIndexes, Indexed, IsFirstDamaged, spec_at, spec_said}
use Rattle.ibis.specs.Listing.{AreListed, IsListed, ListComes, ListGives, ListedPart, ListsBy, ListsWorld, indexed_from, list_result, listed_part, listing, parts_at}
use Rattle.ibis.proofs.IndexLemmas.{spec_in_world}
use Rattle.ibis.proofs.ListLemmas.{asked_of_width}

ok_same : {A E : Type 0} (x y : A) (r : Result A E) → r ≡ Ok x → r ≡ Ok y → x ≡ y
ok_same x y r e h = cc

same_indexed : (i : Indexed) (column : Column) (spec : Option Spec) → i.column ≡ column → i.spec ≡ spec → i ≡ record { column = column; spec = spec }
same_indexed i column spec e h =
    ap (λ (c : Column). let j : Indexed = record { column = c; spec = i.spec } in j) e ∙ ap (λ (s : Option Spec). let j : Indexed = record { column = column; spec = s } in j) h

same_listed : (l : ListedPart) (part : PartMeta) (columns : List Indexed) → l.part ≡ part → l.columns ≡ columns → l ≡ record { part = part; columns = columns }
same_listed l part columns e h =
    ap (λ (p : PartMeta). let k : ListedPart = record { part = p; columns = l.columns } in k) e ∙ ap (λ (cs : List Indexed). let k : ListedPart = record { part = part; columns = cs } in k) h

two_lists : {X : Type 0} (x y : X) (xs ys : List X) → x ≡ y → xs ≡ ys → x ∷ xs ≡ y ∷ ys
two_lists x y xs ys e h = ap (λ z. z ∷ xs) e ∙ ap (λ zs. y ∷ zs) h

module _ (m : Files) (dataset : Dataset) where
  -- the columns of a part are indexed so, from one of a number on
  abbrev Says : PartMeta → Partition → ℕ → List Column → Type 0
  Says part p from columns =
      (k : ℕ) (column : Column) → slice_get columns k ≡ Some column → spec_at m dataset part column ≡ Ok (get p.specs (from + k))

  indexed_are : (part : PartMeta) (p : Partition) (from : ℕ) (columns : List Column) (indexed : List Indexed) → Says part p from columns
      → map (λ (i : Indexed). i.column) indexed ≡ columns → AllByRecursion (λ (i : Indexed). spec_at m dataset part i.column ≡ Ok i.spec) indexed
      → indexed ≡ indexed_from p from columns
  indexed_are part p from [] [] says e h = refl
  indexed_are part p from [] (i ∷ indexed) says e h = absurd (cc)
  indexed_are part p from (column ∷ columns) [] says e h = absurd (cc)
  indexed_are part p from (column ∷ columns) (i ∷ indexed) says e h =
      let first : i.column ≡ column = cc in
      let rest : map (λ (j : Indexed). j.column) indexed ≡ columns = cc in
      let here : from + 0 ≡ from = omega arith in
      let said : spec_at m dataset part column ≡ Ok i.spec = subst (λ (c : Column). spec_at m dataset part c ≡ Ok i.spec) first h.0 in
      let world : spec_at m dataset part column ≡ Ok (get p.specs from) = says 0 column refl ∙ ap (λ n. Ok (get p.specs n)) here in
      let spec : i.spec ≡ get p.specs from = ok_same i.spec (get p.specs from) (spec_at m dataset part column) said world in
      let later : Says part p (from + 1) columns = λ k c at.
      let next : from + suc k ≡ from + 1 + k = omega arith in
      says (suc k) c at ∙ ap (λ n. Ok (get p.specs n)) next in
      two_lists i (record { column = column; spec = get p.specs from }) indexed (indexed_from p (from + 1) columns)
      (same_indexed i column (get p.specs from) first spec) (indexed_are part p (from + 1) columns indexed later rest h.1)

  parts_are : (parts : List Partition) (listed : List ListedPart)
      → ((i : ℕ) (p : Partition) → slice_get parts i ≡ Some p → Says (part_data dataset.schema p) p 0 dataset.schema)
      → map (λ (l : ListedPart). l.part) listed ≡ map (part_data dataset.schema) parts → AllByRecursion (IsListed (Some m) dataset) listed
      → listed ≡ map (listed_part dataset.schema) parts
  parts_are [] [] says e h = refl
  parts_are [] (l ∷ listed) says e h = absurd (cc)
  parts_are (p ∷ parts) [] says e h = absurd (cc)
  parts_are (p ∷ parts) (l ∷ listed) says e h =
      let first : l.part ≡ part_data dataset.schema p = cc in
      let rest : map (λ (x : ListedPart). x.part) listed ≡ map (part_data dataset.schema) parts = cc in
      let is : AreIndexes (Some m) dataset (part_data dataset.schema p) dataset.schema l.columns =
      subst (λ (q : PartMeta). AreIndexes (Some m) dataset q dataset.schema l.columns) first h.0 in
      let columns : l.columns ≡ indexed_from p 0 dataset.schema =
      indexed_are (part_data dataset.schema p) p 0 dataset.schema l.columns (says 0 p refl) is.are is.said in
      two_lists l (listed_part dataset.schema p) listed (map (listed_part dataset.schema) parts)
      (same_listed l (part_data dataset.schema p) (indexed_from p 0 dataset.schema) first columns)
      (parts_are parts listed (λ i q at. says (suc i) q at) rest h.1)

module _ (m : Files) (world : World) (dir : List ℕ) (stands : Stands m world) (path : IsPath dir) where
  says_all : (content : Content) → content_at world dir ≡ Some content → (i : ℕ) (p : Partition) → slice_get content.parts i ≡ Some p
      → Says m (dataset_in dir content) (part_data content.schema p) p 0 content.schema
  says_all content at i p listed = λ k column in_schema.
      let here : k ≡ 0 + k = omega arith in
      spec_in_world m world dir stands content at i p listed k column in_schema ∙ ap (λ n. Ok (get p.specs n)) here

  -- no index is damaged
  undamaged : (content : Content) → content_at world dir ≡ Some content → (damage : Damage) → IsFirstDamaged (Some m) (dataset_in dir content) damage → ⊥
  undamaged content at damage h =
      let from = map-at (part_data content.schema) content.parts h.place h.part h.listed in
      let says : spec_at m (dataset_in dir content) h.part h.first.column ≡ Ok (get from.from.specs h.first.col) =
      subst (λ (q : PartMeta). spec_at m (dataset_in dir content) q h.first.column ≡ Ok (get from.from.specs h.first.col)) from.is
      (spec_in_world m world dir stands content at h.place from.from from.at h.first.col h.first.column h.first.in_schema) in
      let damaged = h.first.damaged in
      let fault : IndexFault = damaged.is.fault in
      let refused : spec_at m (dataset_in dir content) h.part h.first.column ≡ Err fault =
      asked_of_width (Some m) (dataset_in dir content) h.part h.first.column m damaged.width ∙ ap spec_said damaged.is.is in
      let bad : Ok (get from.from.specs h.first.col) ≡ Err fault = sym says ∙ refused in cc

  listing_there : (content : Content) → content_at world dir ≡ Some content → (result : Result (List ℕ) Status)
      → ListsBy (Some m) (Ok (dataset_in dir content)) result → Ok (listing content.schema (parts_at content.schema (Some content))) ≡ result
  listing_there content at (Ok text) h =
      let parts : h.0 ≡ map (listed_part content.schema) content.parts =
      parts_are m (dataset_in dir content) content.parts h.0 (says_all content at) h.1.are h.1.each in
      ap (λ (ps : List ListedPart). Ok (listing content.schema ps)) (sym parts) ∙ ap Ok (sym h.2)
  listing_there content at (Err status) h = absurd (undamaged content at h.0 h.2)

  list_by : (content : Option Content) → content_at world dir ≡ content → (result : Result (List ℕ) Status)
      → ListsBy (Some m) (dataset_or_refusal dir (found_by dir content)) result → list_result dir (found_by dir content) content ≡ result
  unfolding list_result
  list_by None at result h = sym h
  list_by (Some content) at result h = listing_there content at result h

  pub list_is : (result : Result (List ℕ) Status) → ListComes dir (Some m) result → list_result dir (found_in world dir) (content_at world dir) ≡ result
  list_is result h =
      list_by (content_at world dir) refl result
      (subst (λ (f : Found). ListsBy (Some m) (dataset_or_refusal dir f) result) (found_is m world dir h.found stands path h.told) h.lists)

pub lists_world : (dir : List ℕ) (files : Option Files) (result : Result (List ℕ) Unanswered) → IsPath dir → ListGives dir files result → ListsWorld dir files result
lists_world dir None result path h world stands = absurd stands
lists_world dir (Some m) (Ok text) path h world stands = list_is m world dir stands path (Ok text) h
lists_world dir (Some m) (Err stop) path h world stands = tt
