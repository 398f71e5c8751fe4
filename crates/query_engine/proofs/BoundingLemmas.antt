-- The bounds of the parts, one part after the other.
use Rattle.std.proofs.Common.{◌≡◌, ℕ, ◌+◌, ◌*◌, ◌^◌, ◌<◌, ◌≤◌, Bool, true, List, take, Option, Some, refl, sym, ap, ◌∙◌, arith}
use Rattle.std.specs.Prelude.{slice_get}
use Rattle.std.specs.List.{sum_by}
use Rattle.fb_outside.specs.Files.{Files}
use Rattle.fb_outside.specs.Reads.{Look}
use Rattle.part_meta.specs.declared.part.PartMeta.{PartMeta}
use Rattle.where_plan.specs.Plans.{FitsSchema}
use Rattle.where_plan.specs.declared.plan.Plan.{Plan}
use Rattle.stages.specs.Answer.{bitmaps_in, is_free_in}
use Rattle.stages.specs.Looks.{AddsLooks}
use Rattle.stages.proofs.ListLemmas.{sum_by_taken}
use Rattle.world.specs.World.{Partition}
use Rattle.dataset.specs.Opened.{IsDataset}
use Rattle.dataset.specs.declared.content.Dataset.{Dataset}
use Rattle.part_meaning.specs.Answers.{definite_in, possible_in}
use Rattle.part_meaning.specs.Meaning.{IsPartAt}
use Rattle.part_meaning.specs.Parts.{is_bitmap_in}
use Rattle.query_engine.specs.Parts.{AreParts, definite_over, possible_over}
use Rattle.query_engine.specs.Reads.{means_in, steps_in}
use Rattle.query_engine.proofs.NameLemmas.{IsOfPart, free_of_part}
use Rattle.query_engine.proofs.PartLemmas.{part_at}
use Rattle.query_engine.proofs.WalkLemmas.{Walked, walked_more, walked_none}

abbrev pub free_in : Dataset → Plan → Partition → Look → Bool
free_in dataset plan part look = is_free_in (means_in dataset part) plan look

-- The parts up to a place were estimated.
pub record BoundedTo (files : Option Files) (dataset : Dataset) (plan : Plan) (old : Option (List Look)) (before place definite possible : ℕ) (new : Option (List Look)) (now : ℕ) : Type 0 where
  pub few_definite : definite ≤ 4194304 * place
  pub few_possible : possible ≤ 4194304 * place
  pub definite_are : (parts : List Partition) → AreParts files dataset parts → definite ≡ definite_over dataset.schema (take place parts) plan
  pub possible_are : (parts : List Partition) → AreParts files dataset parts → possible ≡ possible_over dataset.schema (take place parts) plan
  pub walked : (parts : List Partition) → AreParts files dataset parts → Walked dataset parts plan (free_in dataset plan) old before place new now

-- what is said of the bounds of a part
pub record IsPartBounds (files : Option Files) (dataset : Dataset) (plan : Plan) (meta : PartMeta) (definite possible : ℕ) (mid new : Option (List Look)) (then_ now : ℕ) : Type 0 where
  pub few : (definite ≤ 4194304) × (possible ≤ 4194304)
  pub definite_are : (p : Partition) → IsPartAt files dataset.dir meta p → definite ≡ definite_in dataset.schema p plan
  pub possible_are : (p : Partition) → IsPartAt files dataset.dir meta p → possible ≡ possible_in dataset.schema p plan
  pub reads : (p : Partition) → IsPartAt files dataset.dir meta p
      → AddsLooks mid new (free_in dataset plan p) (is_bitmap_in dataset.dir dataset.schema p) (bitmaps_in (means_in dataset p) plan) (Unit {0})
  pub steps : (p : Partition) → IsPartAt files dataset.dir meta p → now ≤ then_ + steps_in dataset plan p

-- the sums stay within 64 bits
pub sum_of_bounds : (some place many more : ℕ) → some ≤ 4194304 * place → place < many → many ≤ 1024 → more ≤ 4194304 → some + more < 2 ^ 64
sum_of_bounds some place many more h k l few = omega (arith, h, k, l, few)

module _ (files : Option Files) (dataset : Dataset) (plan : Plan) (valid : IsDataset dataset) (fits : FitsSchema dataset.schema plan) where
  pub named : (part : Partition) (look : Look) → free_in dataset plan part look ≡ true → IsOfPart dataset.dir part.number look.name
  named part look h = free_of_part dataset.dir dataset.schema part plan look valid.catalog.schema fits h

  pub bounded_none : (old : Option (List Look)) (before : ℕ) → BoundedTo files dataset plan old before 0 0 0 old before
  unfolding definite_over possible_over
  bounded_none old before = record {
    few_definite = omega arith;
    few_possible = omega arith;
    definite_are = λ parts are. refl;
    possible_are = λ parts are. refl;
    walked = λ parts are. walked_none files dataset parts plan (free_in dataset plan) valid are named old before;
  }

  pub bounded_more : (old mid new : Option (List Look)) (before then_ now place definite possible : ℕ) (meta : PartMeta) (more_definite more_possible : ℕ)
      → slice_get dataset.parts place ≡ Some meta → BoundedTo files dataset plan old before place definite possible mid then_
      → IsPartBounds files dataset plan meta more_definite more_possible mid new then_ now
      → BoundedTo files dataset plan old before (place + 1) (definite + more_definite) (possible + more_possible) new now
  unfolding definite_over possible_over
  bounded_more old mid new before then_ now place definite possible meta more_definite more_possible listed h k = record {
    few_definite = omega (arith, h.few_definite, k.few.0);
    few_possible = omega (arith, h.few_possible, k.few.1);
    definite_are = λ parts are. let p = part_at files dataset parts valid are place meta listed in
        ap (λ n. n + more_definite) (h.definite_are parts are)
        ∙ ap (λ n. sum_by (λ part. definite_in dataset.schema part plan) (take place parts) + n) (k.definite_are p.0 (are.each place meta p.0 listed p.1))
        ∙ sym (sum_by_taken (λ part. definite_in dataset.schema part plan) parts place p.0 p.1);
    possible_are = λ parts are. let p = part_at files dataset parts valid are place meta listed in
        ap (λ n. n + more_possible) (h.possible_are parts are)
        ∙ ap (λ n. sum_by (λ part. possible_in dataset.schema part plan) (take place parts) + n) (k.possible_are p.0 (are.each place meta p.0 listed p.1))
        ∙ sym (sum_by_taken (λ part. possible_in dataset.schema part plan) parts place p.0 p.1);
    walked = λ parts are. let p = part_at files dataset parts valid are place meta listed in
        let is = are.each place meta p.0 listed p.1 in
        walked_more files dataset parts plan (free_in dataset plan) valid are named old mid new before then_ now place p.0 p.1 (h.walked parts are) (k.reads p.0 is) (k.steps p.0 is);
  }
