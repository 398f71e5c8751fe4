-- The parts of a dataset are apart: a read of one is of no other's bitmaps.
use Rattle.std.proofs.Common.{◌≡◌, ℕ, zero, suc, ◌+◌, ◌*◌, ◌<◌, ◌≤◌, Bool, List, [], ◌∷◌, length, map, Option, Some, refl, sym, ap, subst, ◌∙◌, arith}
use Rattle.std.specs.Prelude.{option_map, slice_get, slice_index_or}
use Rattle.std.proofs.lemmas.Option.{slice_get-map}
use Rattle.fb_outside.specs.Files.{Files}
use Rattle.fb_outside.specs.Reads.{AddsOnly, Look}
use Rattle.fb_outside.proofs.ReadLemmas.{AddsOnly-weaken}
use Rattle.fb_types.specs.declared.schemas.Column.{Column}
use Rattle.part_meta.specs.FileNames.{file_name}
use Rattle.part_meta.specs.declared.part.PartMeta.{PartMeta}
use Rattle.where_plan.specs.Plans.{place_in}
use Rattle.where_plan.specs.declared.plan.Plan.{Plan}
use Rattle.three_valued.specs.Plans.{atoms_of}
use Rattle.wah_logic.specs.Logic.{groups_and_rest}
use Rattle.stages.specs.Answer.{bitmaps_in, work_in}
use Rattle.stages.specs.Faults.{IsOneOf}
use Rattle.stages.specs.Looks.{AddsLooks}
use Rattle.stages.specs.Meaning.{Meaning}
use Rattle.world.specs.World.{Partition}
use Rattle.world.proofs.PlaceLemmas.{All-at, AllPairs-at, same_place}
use Rattle.dataset.specs.Opened.{IsDataset, IsPartOf}
use Rattle.dataset.specs.declared.content.Dataset.{Dataset}
use Rattle.part_meaning.specs.Columns.{no_column}
use Rattle.part_meaning.specs.Meaning.{IsPartAt, meaning_of}
use Rattle.part_meaning.specs.Parts.{is_bitmap_in}
use Rattle.two_stage.specs.Placed.{IsColumnLook, placed_of}
use Rattle.query_engine.specs.Parts.{AreParts}
use Rattle.query_engine.specs.Reads.{IsPlanLook, is_bitmap_over, means_in, steps_in}
use Rattle.query_engine.proofs.NameLemmas.{IsOfPart, bitmap_of_part, same_part}
use Rattle.query_engine.proofs.ReadLemmas.{any_alone}

pub item_at : {X : Type 0} (xs : List X) (i : ℕ) → i < length xs → (x : X) × (slice_get xs i ≡ Some x)
item_at [] i h = absurd (omega arith)
item_at (x ∷ xs) zero h = (x, refl)
item_at (x ∷ xs) (suc i) h = item_at xs i (omega arith)

pub place_in_list : {X : Type 0} (xs : List X) (i : ℕ) (x : X) → slice_get xs i ≡ Some x → i < length xs
place_in_list [] i x h = absurd cc
place_in_list (y ∷ ys) zero x h = omega arith
place_in_list (y ∷ ys) (suc i) x h = let below = place_in_list ys i x h in omega (arith, below)

-- a listed part has the dataset's columns and a number that files can have
pub listed_at : (dataset : Dataset) (place : ℕ) (meta : PartMeta) → IsDataset dataset → slice_get dataset.parts place ≡ Some meta → IsPartOf dataset meta
listed_at dataset place meta valid listed = All-at (IsPartOf dataset) dataset.parts place meta listed valid.parts

-- ---- one part

pub row_limit : (dataset : Dataset) (place : ℕ) (meta : PartMeta) → IsDataset dataset → slice_get dataset.parts place ≡ Some meta → meta.rows ≤ 4194304
row_limit dataset place meta valid listed = (listed_at dataset place meta valid listed).0.few

-- what is said by the part's columns is said by the dataset's
pub own_reads : (allowed : Meaning → Plan → Look → Bool) (dataset : Dataset) (place : ℕ) (meta : PartMeta) (part : Partition) (plan : Plan)
    (old new : Option (List Look)) (done : Type 0) → IsDataset dataset → slice_get dataset.parts place ≡ Some meta
    → AddsLooks old new (allowed (meaning_of dataset.dir meta.schema part) plan) (is_bitmap_in dataset.dir meta.schema part)
    (bitmaps_in (meaning_of dataset.dir meta.schema part) plan) done
    → AddsLooks old new (allowed (means_in dataset part) plan) (is_bitmap_in dataset.dir dataset.schema part) (bitmaps_in (means_in dataset part) plan) done
own_reads allowed dataset place meta part plan old new done valid listed h =
    subst (λ schema. AddsLooks old new (allowed (meaning_of dataset.dir schema part) plan) (is_bitmap_in dataset.dir schema part)
    (bitmaps_in (meaning_of dataset.dir schema part) plan) done) (listed_at dataset place meta valid listed).1 h

plan_look : (dataset : Dataset) (place : ℕ) (meta : PartMeta) (plan : Plan) (look : Look) → IsDataset dataset → slice_get dataset.parts place ≡ Some meta
    → IsOneOf (atoms_of plan) (λ condition. IsColumnLook (placed_of dataset.dir meta condition) look) → IsPlanLook dataset plan look
plan_look dataset place meta plan look valid listed one = record {
  place = place;
  part = meta;
  listed = listed;
  kind = one.is.kind;
  for_condition = record {
    place = one.place;
    atom = one.atom;
    there = one.there;
    is = subst (λ (schema : List Column). look.name ≡ file_name dataset.dir meta.number (Some (slice_index_or schema (place_in one.atom) no_column).name) one.is.kind)
        (listed_at dataset place meta valid listed).1 one.is.of_it;
  };
}

-- each read of a listed part is one of the dataset
pub own_looks : (dataset : Dataset) (place : ℕ) (meta : PartMeta) (plan : Plan) (old new : Option (List Look)) → IsDataset dataset
    → slice_get dataset.parts place ≡ Some meta
    → AddsOnly (λ look. IsOneOf (atoms_of plan) (λ condition. IsColumnLook (placed_of dataset.dir meta condition) look)) old new
    → AddsOnly (IsPlanLook dataset plan) old new
own_looks dataset place meta plan old new valid listed h =
    AddsOnly-weaken (λ look. IsOneOf (atoms_of plan) (λ condition. IsColumnLook (placed_of dataset.dir meta condition) look)) (IsPlanLook dataset plan) old new
    (λ look one. plan_look dataset place meta plan look valid listed one) h

pub own_steps : (files : Option Files) (dataset : Dataset) (place : ℕ) (meta : PartMeta) (part : Partition) (plan : Plan) (before now : ℕ)
    → IsDataset dataset → slice_get dataset.parts place ≡ Some meta → IsPartAt files dataset.dir meta part
    → now ≤ before + 2 * groups_and_rest meta.rows * work_in (meaning_of dataset.dir meta.schema part) plan
    → now ≤ before + steps_in dataset plan part
own_steps files dataset place meta part plan before now valid listed is h =
    let rows : meta.rows ≡ length part.records = ap (λ (m : PartMeta). m.rows) is.is in
    subst (λ n. now ≤ before + 2 * groups_and_rest n * work_in (means_in dataset part) plan) rows
    (subst (λ schema. now ≤ before + 2 * groups_and_rest meta.rows * work_in (meaning_of dataset.dir schema part) plan)
    (listed_at dataset place meta valid listed).1 h)

-- ---- all parts

module _ (files : Option Files) (dataset : Dataset) (parts : List Partition) (valid : IsDataset dataset) (are : AreParts files dataset parts) where
  -- the part of a place, as the dataset lists it
  pub meta_at : (place : ℕ) (part : Partition) → slice_get parts place ≡ Some part
      → (meta : PartMeta) × (slice_get dataset.parts place ≡ Some meta)
  meta_at place part there = item_at dataset.parts place (let below = place_in_list parts place part there in omega (arith, below, are.number))

  pub part_at : (place : ℕ) (meta : PartMeta) → slice_get dataset.parts place ≡ Some meta → (part : Partition) × (slice_get parts place ≡ Some part)
  part_at place meta listed = item_at parts place (let below = place_in_list dataset.parts place meta listed in omega (arith, below, are.number))

  number_at : (place : ℕ) (part : Partition) → slice_get parts place ≡ Some part → slice_get (map (λ (m : PartMeta). m.number) dataset.parts) place ≡ Some part.number
  number_at place part there =
      let listed = meta_at place part there in
      slice_get-map (λ (m : PartMeta). m.number) dataset.parts place ∙ ap (option_map (λ (m : PartMeta). m.number)) listed.1
      ∙ ap (λ (m : PartMeta). Some m.number) (are.each place listed.0 part listed.1 there).is

  pub low_number : (place : ℕ) (part : Partition) → slice_get parts place ≡ Some part → part.number < 4096
  low_number place part there =
      let listed = meta_at place part there in
      subst (λ n. n < 4096) (ap (λ (m : PartMeta). m.number) (are.each place listed.0 part listed.1 there).is)
      (listed_at dataset place listed.0 valid listed.1).0.number

  same_number : (i j : ℕ) (p q : Partition) → slice_get parts i ≡ Some p → slice_get parts j ≡ Some q → p.number ≡ q.number → q ≡ p
  same_number i j p q at there e =
      let numbers = map (λ (m : PartMeta). m.number) dataset.parts in
      let here : i ≡ j = same_place i j
      (λ less. let below = AllPairs-at (λ a b. a < b) numbers i j p.number q.number (number_at i p at) (number_at j q there) less valid.catalog.rising in absurd (omega (arith, below, e)))
      (λ more. let below = AllPairs-at (λ a b. a < b) numbers j i q.number p.number (number_at j q there) (number_at i p at) more valid.catalog.rising in absurd (omega (arith, below, e))) in
      let both : Some q ≡ Some p = sym there ∙ ap (slice_get parts) (sym here) ∙ at in
      cc

  -- of a bitmap of some part exactly where it is of one of this part
  pub bitmap_here : (place : ℕ) (part : Partition) (look : Look) → slice_get parts place ≡ Some part → IsOfPart dataset.dir part.number look.name
      → is_bitmap_in dataset.dir dataset.schema part look ≡ is_bitmap_over dataset parts look
  unfolding is_bitmap_over
  bitmap_here place part look there named =
      sym (any_alone (λ p. is_bitmap_in dataset.dir dataset.schema p look) parts place part there (λ j other at t.
      same_number place j part other there at
      (same_part dataset.dir part.number other.number look.name (low_number place part there) (low_number j other at) named
      (bitmap_of_part dataset.dir dataset.schema other look valid.catalog.schema t))))
