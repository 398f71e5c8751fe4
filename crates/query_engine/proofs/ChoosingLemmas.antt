-- The rows of the parts, one part after the other.
use Rattle.std.proofs.Common.{◌≡◌, ℕ, ◌+◌, ◌*◌, ◌^◌, ◌<◌, ◌≤◌, Bool, true, List, [], ◌∷◌, ◌++◌, length, map, take, Option, Some, refl, sym, ap, ◌∙◌, arith}
use Rattle.std.specs.Prelude.{slice_get}
use Rattle.std.specs.List.{sum_by}
use Rattle.std.proofs.lemmas.List.{map-append}
use Rattle.std.proofs.lemmas.List.Sums.{count_by-le-length, sum_by-append, sum_by-cons}
use Rattle.fb_outside.specs.Files.{Files}
use Rattle.fb_outside.specs.Reads.{Look}
use Rattle.part_meta.specs.declared.part.PartMeta.{PartMeta}
use Rattle.where_plan.specs.Plans.{FitsSchema}
use Rattle.where_plan.specs.declared.plan.Plan.{Plan}
use Rattle.wah_logic.specs.Logic.{ones}
use Rattle.stages.specs.Answer.{bitmaps_in, is_allowed_in}
use Rattle.stages.specs.Looks.{AddsLooks}
use Rattle.stages.proofs.ListLemmas.{all_taken, map_taken, sum_by_taken}
use Rattle.world.specs.World.{Partition}
use Rattle.dataset.specs.Opened.{IsDataset}
use Rattle.dataset.specs.declared.content.Dataset.{Dataset}
use Rattle.part_meaning.specs.Answers.{checked_in, rows_that_hold}
use Rattle.part_meaning.specs.Meaning.{IsPartAt}
use Rattle.part_meaning.specs.Parts.{is_bitmap_in}
use Rattle.query_engine.specs.Parts.{AreParts, checked_over, hits_over, rows_chosen}
use Rattle.query_engine.specs.Reads.{means_in, steps_in}
use Rattle.query_engine.proofs.NameLemmas.{IsOfPart, allowed_of_part}
use Rattle.query_engine.proofs.PartLemmas.{part_at}
use Rattle.query_engine.proofs.WalkLemmas.{Walked, walked_more, walked_none}

abbrev pub allowed_of : Dataset → Plan → Partition → Look → Bool
allowed_of dataset plan part look = is_allowed_in (means_in dataset part) plan look

-- The parts up to a place were answered: a vector of each, how many rows, and how many checks.
pub record ChosenTo (files : Option Files) (dataset : Dataset) (plan : Plan) (old : Option (List Look)) (before place : ℕ) (vectors : List (List Bool)) (hits checked : ℕ) (new : Option (List Look)) (now : ℕ) : Type 0 where
  pub long : map length vectors ≡ map (λ (part : PartMeta). part.rows) (take place dataset.parts)
  pub count : hits ≡ sum_by ones vectors
  pub few_hits : hits ≤ 4194304 * place
  pub few_checks : checked ≤ 18014398509481983 * place
  pub rows : (parts : List Partition) → AreParts files dataset parts → vectors ≡ rows_chosen plan (take place parts)
  pub checks : (parts : List Partition) → AreParts files dataset parts → checked ≡ checked_over dataset.schema (take place parts) plan
  pub walked : (parts : List Partition) → AreParts files dataset parts → Walked dataset parts plan (allowed_of dataset plan) old before place new now

-- what is said of the answer of a part
pub record IsPartAnswer (files : Option Files) (dataset : Dataset) (plan : Plan) (meta : PartMeta) (vector : List Bool) (count checked : ℕ) (mid new : Option (List Look)) (then_ now : ℕ) : Type 0 where
  pub long : length vector ≡ meta.rows
  pub limit : meta.rows ≤ 4194304
  pub counted : count ≡ ones vector
  pub few : checked < 2 ^ 54
  pub rows : (p : Partition) → IsPartAt files dataset.dir meta p → vector ≡ rows_that_hold plan p
  pub checks : (p : Partition) → IsPartAt files dataset.dir meta p → checked ≡ checked_in dataset.schema p plan
  pub reads : (p : Partition) → IsPartAt files dataset.dir meta p
      → AddsLooks mid new (allowed_of dataset plan p) (is_bitmap_in dataset.dir dataset.schema p) (bitmaps_in (means_in dataset p) plan) (Unit {0})
  pub steps : (p : Partition) → IsPartAt files dataset.dir meta p → now ≤ then_ + steps_in dataset plan p

few_ones : (vector : List Bool) (rows count : ℕ) → length vector ≡ rows → rows ≤ 4194304 → count ≡ ones vector → count ≤ 4194304
few_ones vector rows count long limit counted =
    let most = count_by-le-length (λ b. b) vector in omega (arith, most, long, limit, counted)

-- the sums stay within 64 bits
pub sum_of_hits : (hits place many rows count : ℕ) (vector : List Bool) → hits ≤ 4194304 * place → place < many → many ≤ 1024
    → length vector ≡ rows → rows ≤ 4194304 → count ≡ ones vector → hits + count < 2 ^ 64
sum_of_hits hits place many rows count vector h k l long limit counted =
    let few = few_ones vector rows count long limit counted in omega (arith, h, k, l, few)

pub sum_of_checks : (checked place many more : ℕ) → checked ≤ 18014398509481983 * place → place < many → many ≤ 1024 → more < 2 ^ 54 → checked + more < 2 ^ 64
sum_of_checks checked place many more h k l few = omega (arith, h, k, l, few)

one_more_sum : (vectors : List (List Bool)) (vector : List Bool) → sum_by ones (vectors ++ vector ∷ []) ≡ sum_by ones vectors + ones vector
one_more_sum vectors vector =
    let last : sum_by ones (vector ∷ []) ≡ ones vector = sum_by-cons ones vector [] ∙ omega arith in
    sum_by-append ones vectors (vector ∷ []) ∙ ap (λ n. sum_by ones vectors + n) last

module _ (files : Option Files) (dataset : Dataset) (plan : Plan) (valid : IsDataset dataset) (fits : FitsSchema dataset.schema plan) where
  pub named : (part : Partition) (look : Look) → allowed_of dataset plan part look ≡ true → IsOfPart dataset.dir part.number look.name
  named part look h = allowed_of_part dataset.dir dataset.schema part plan look valid.catalog.schema fits h

  pub chosen_none : (old : Option (List Look)) (before : ℕ) (vectors : List (List Bool)) → vectors ≡ [] → ChosenTo files dataset plan old before 0 vectors 0 0 old before
  unfolding rows_chosen checked_over
  chosen_none old before vectors none = record {
    long = ap (map length) none;
    count = sym (ap (sum_by ones) none);
    few_hits = omega arith;
    few_checks = omega arith;
    rows = λ parts are. none;
    checks = λ parts are. refl;
    walked = λ parts are. walked_none files dataset parts plan (allowed_of dataset plan) valid are named old before;
  }

  pub chosen_more : (old mid new : Option (List Look)) (before then_ now place : ℕ) (vectors : List (List Bool)) (hits checked : ℕ)
      (meta : PartMeta) (vector : List Bool) (count more : ℕ) → slice_get dataset.parts place ≡ Some meta
      → ChosenTo files dataset plan old before place vectors hits checked mid then_
      → IsPartAnswer files dataset plan meta vector count more mid new then_ now
      → ChosenTo files dataset plan old before (place + 1) (vectors ++ vector ∷ []) (hits + count) (checked + more) new now
  unfolding rows_chosen checked_over
  chosen_more old mid new before then_ now place vectors hits checked meta vector count more listed h k = record {
    long = map-append length vectors (vector ∷ []) ∙ ap (λ ns. ns ++ length vector ∷ []) h.long
        ∙ ap (λ n. map (λ (part : PartMeta). part.rows) (take place dataset.parts) ++ n ∷ []) k.long
        ∙ sym (map_taken (λ (part : PartMeta). part.rows) dataset.parts place meta listed);
    count = (let e = one_more_sum vectors vector in omega (arith, h.count, k.counted, e));
    few_hits = (let few = few_ones vector meta.rows count k.long k.limit k.counted in omega (arith, h.few_hits, few));
    few_checks = omega (arith, h.few_checks, k.few);
    rows = λ parts are. let p = part_at files dataset parts valid are place meta listed in
        ap (λ vs. vs ++ vector ∷ []) (h.rows parts are) ∙ ap (λ v. map (rows_that_hold plan) (take place parts) ++ v ∷ []) (k.rows p.0 (are.each place meta p.0 listed p.1))
        ∙ sym (map_taken (rows_that_hold plan) parts place p.0 p.1);
    checks = λ parts are. let p = part_at files dataset parts valid are place meta listed in
        ap (λ n. n + more) (h.checks parts are) ∙ ap (λ n. sum_by (λ part. checked_in dataset.schema part plan) (take place parts) + n) (k.checks p.0 (are.each place meta p.0 listed p.1))
        ∙ sym (sum_by_taken (λ part. checked_in dataset.schema part plan) parts place p.0 p.1);
    walked = λ parts are. let p = part_at files dataset parts valid are place meta listed in
        let is = are.each place meta p.0 listed p.1 in
        walked_more files dataset parts plan (allowed_of dataset plan) valid are named old mid new before then_ now place p.0 p.1 (h.walked parts are) (k.reads p.0 is) (k.steps p.0 is);
  }

-- ---- all parts

ones_each : {X : Type 0} (f : X → List Bool) (xs : List X) → sum_by ones (map f xs) ≡ sum_by (λ x. ones (f x)) xs
ones_each f [] = refl
ones_each f (x ∷ xs) =
    let rest = ones_each f xs in
    omega (arith, rest, sum_by-cons ones (f x) (map f xs), sum_by-cons (λ y. ones (f y)) x xs)

pub all_hits : (files : Option Files) (dataset : Dataset) (plan : Plan) (old new : Option (List Look)) (before now place : ℕ) (vectors : List (List Bool)) (hits checked : ℕ)
    (parts : List Partition) → ChosenTo files dataset plan old before place vectors hits checked new now → AreParts files dataset parts → length parts ≤ place
    → hits ≡ hits_over plan parts
unfolding rows_chosen hits_over
all_hits files dataset plan old new before now place vectors hits checked parts h are past =
    h.count ∙ ap (sum_by ones) (h.rows parts are) ∙ ap (λ ps. sum_by ones (map (rows_that_hold plan) ps)) (all_taken parts place past)
    ∙ ones_each (rows_that_hold plan) parts
