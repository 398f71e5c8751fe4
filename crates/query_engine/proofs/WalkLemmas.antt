-- The walk over the parts: what is known after the first of them.
use Rattle.std.proofs.Common.{◌≡◌, ℕ, ◌+◌, ◌≤◌, Bool, true, List, length, take, drop, Option, Some, refl, sym, subst, arith}
use Rattle.std.specs.Prelude.{slice_get}
use Rattle.std.specs.List.{flat_map, list_any}
use Rattle.fb_outside.specs.Files.{Files}
use Rattle.fb_outside.specs.Reads.{Look}
use Rattle.where_plan.specs.declared.plan.Plan.{Plan}
use Rattle.stages.specs.Answer.{bitmaps_in}
use Rattle.stages.specs.Looks.{AddsLooks}
use Rattle.stages.proofs.ListLemmas.{all_taken, any_at, flat_map_front, flat_map_taken, sum_by_front, sum_by_taken}
use Rattle.stages.proofs.LookLemmas.{adds_done, adds_front, adds_joined, adds_none, adds_weaker}
use Rattle.world.specs.World.{Partition}
use Rattle.dataset.specs.Opened.{IsDataset}
use Rattle.dataset.specs.declared.content.Dataset.{Dataset}
use Rattle.part_meaning.specs.Parts.{is_bitmap_in}
use Rattle.query_engine.specs.Parts.{AreParts}
use Rattle.query_engine.specs.Reads.{bitmaps_over, is_bitmap_over, means_in, steps_in, steps_over}
use Rattle.query_engine.proofs.NameLemmas.{IsOfPart}
use Rattle.query_engine.proofs.PartLemmas.{bitmap_here}
use Rattle.query_engine.proofs.ReadLemmas.{adds_other}

-- What is allowed in a part, and what over all parts: what is allowed in some.
abbrev pub over : (Partition → Look → Bool) → List Partition → Look → Bool
over allowed parts look = list_any (λ part. allowed part look) parts

-- The parts up to a place were answered: their reads, and the steps.
pub record Walked (dataset : Dataset) (parts : List Partition) (plan : Plan) (allowed : Partition → Look → Bool) (old : Option (List Look)) (before place : ℕ) (new : Option (List Look)) (now : ℕ) : Type 0 where
  pub reads : AddsLooks old new (over allowed parts) (is_bitmap_over dataset parts) (bitmaps_over dataset (take place parts) plan) (Unit {0})
  pub steps : now ≤ before + steps_over dataset (take place parts) plan

module _ (files : Option Files) (dataset : Dataset) (parts : List Partition) (plan : Plan) (allowed : Partition → Look → Bool)
    (valid : IsDataset dataset) (are : AreParts files dataset parts)
    (named : (part : Partition) (look : Look) → allowed part look ≡ true → IsOfPart dataset.dir part.number look.name) where
  pub walked_none : (old : Option (List Look)) (before : ℕ) → Walked dataset parts plan allowed old before 0 old before
  unfolding bitmaps_over
  walked_none old before = record {
    reads = adds_none old old (over allowed parts) (is_bitmap_over dataset parts) (Unit {0}) refl;
    steps = omega arith;
  }

  -- the reads of a part as those of the dataset
  reads_of_part : (place : ℕ) (part : Partition) (mid new : Option (List Look)) (done : Type 0) → slice_get parts place ≡ Some part
      → AddsLooks mid new (allowed part) (is_bitmap_in dataset.dir dataset.schema part) (bitmaps_in (means_in dataset part) plan) done
      → AddsLooks mid new (over allowed parts) (is_bitmap_over dataset parts) (bitmaps_in (means_in dataset part) plan) done
  reads_of_part place part mid new done there h =
      let xs = bitmaps_in (means_in dataset part) plan in
      adds_weaker mid new (allowed part) (over allowed parts) (is_bitmap_over dataset parts) xs done (λ look t. any_at (λ p. allowed p look) parts place part there t)
      (adds_other mid new (allowed part) (is_bitmap_in dataset.dir dataset.schema part) (is_bitmap_over dataset parts) xs done
      (λ look t. bitmap_here files dataset parts valid are place part look there (named part look t)) h)

  more_reads : (old mid new : Option (List Look)) (place : ℕ) (part : Partition) (done : Type 0) → slice_get parts place ≡ Some part
      → AddsLooks old mid (over allowed parts) (is_bitmap_over dataset parts) (bitmaps_over dataset (take place parts) plan) (Unit {0})
      → AddsLooks mid new (allowed part) (is_bitmap_in dataset.dir dataset.schema part) (bitmaps_in (means_in dataset part) plan) done
      → AddsLooks old new (over allowed parts) (is_bitmap_over dataset parts) (bitmaps_over dataset (take (place + 1) parts) plan) done
  unfolding bitmaps_over
  more_reads old mid new place part done there h k =
      let f : Partition → List Look = λ p. bitmaps_in (means_in dataset p) plan in
      subst (λ xs. AddsLooks old new (over allowed parts) (is_bitmap_over dataset parts) xs done) (sym (flat_map_taken f parts place part there))
      (adds_joined old mid new (over allowed parts) (is_bitmap_over dataset parts) (flat_map f (take place parts)) (f part) (Unit {0}) done tt h
      (reads_of_part place part mid new done there k))

  more_steps : (before mid now place : ℕ) (part : Partition) → slice_get parts place ≡ Some part → mid ≤ before + steps_over dataset (take place parts) plan
      → now ≤ mid + steps_in dataset plan part → now ≤ before + steps_over dataset (take (place + 1) parts) plan
  unfolding steps_over
  more_steps before mid now place part there h k =
      let e = sum_by_taken (steps_in dataset plan) parts place part there in omega (arith, h, k, e)

  pub walked_more : (old mid new : Option (List Look)) (before then_ now place : ℕ) (part : Partition) → slice_get parts place ≡ Some part
      → Walked dataset parts plan allowed old before place mid then_
      → AddsLooks mid new (allowed part) (is_bitmap_in dataset.dir dataset.schema part) (bitmaps_in (means_in dataset part) plan) (Unit {0})
      → now ≤ then_ + steps_in dataset plan part → Walked dataset parts plan allowed old before (place + 1) new now
  walked_more old mid new before then_ now place part there h k l = record {
    reads = more_reads old mid new place part (Unit {0}) there h.reads k;
    steps = more_steps before then_ now place part there h.steps l;
  }

  -- all parts
  pub whole_reads : (old new : Option (List Look)) (before now place : ℕ) (done : Type 0) → length parts ≤ place
      → Walked dataset parts plan allowed old before place new now
      → AddsLooks old new (over allowed parts) (is_bitmap_over dataset parts) (bitmaps_over dataset parts plan) done
  whole_reads old new before now place done past h =
      adds_done old new (over allowed parts) (is_bitmap_over dataset parts) (bitmaps_over dataset parts plan) (Unit {0}) done (λ is. tt)
      (subst (λ ps. AddsLooks old new (over allowed parts) (is_bitmap_over dataset parts) (bitmaps_over dataset ps plan) (Unit {0})) (all_taken parts place past) h.reads)

  -- where a part is refused the reads are a front of all
  pub refused_reads : (old mid new : Option (List Look)) (before then_ place : ℕ) (part : Partition) (done more : Type 0) → slice_get parts place ≡ Some part
      → Walked dataset parts plan allowed old before place mid then_ → (more → ⊥)
      → AddsLooks mid new (allowed part) (is_bitmap_in dataset.dir dataset.schema part) (bitmaps_in (means_in dataset part) plan) done
      → AddsLooks old new (over allowed parts) (is_bitmap_over dataset parts) (bitmaps_over dataset parts plan) more
  unfolding bitmaps_over
  refused_reads old mid new before then_ place part done more there h not_done k =
      let f : Partition → List Look = λ p. bitmaps_in (means_in dataset p) plan in
      subst (λ xs. AddsLooks old new (over allowed parts) (is_bitmap_over dataset parts) xs more) (flat_map_front f parts (place + 1))
      (adds_front old new (over allowed parts) (is_bitmap_over dataset parts) (flat_map f (take (place + 1) parts)) (flat_map f (drop (place + 1) parts)) done more not_done
      (more_reads old mid new place part done there h.reads k))

  pub refused_steps : (old mid : Option (List Look)) (before then_ now place : ℕ) (part : Partition) → slice_get parts place ≡ Some part
      → Walked dataset parts plan allowed old before place mid then_ → now ≤ then_ + steps_in dataset plan part → now ≤ before + steps_over dataset parts plan
  unfolding steps_over
  refused_steps old mid before then_ now place part there h k =
      let some = more_steps before then_ now place part there h.steps k in
      let all = sum_by_front (steps_in dataset plan) parts (place + 1) in
      omega (arith, some, all)
