-- What is answered over parts is said of their records, and which parts a world has.
use Rattle.std.proofs.Common.{◌≡◌, ℕ, ◌+◌, ◌≤◌, Bool, cond, count_by, List, [], ◌∷◌, ◌++◌, All, length, map, Option, Some, refl, sym, ap, subst, ◌∙◌, arith, length-append}
use Rattle.std.specs.Prelude.{option_map}
use Rattle.std.specs.List.{filter, flat_map, sum_by}
use Rattle.std.proofs.lemmas.List.{length-map}
use Rattle.std.proofs.lemmas.List.Elements.{All-head, All-tail, filter-append}
use Rattle.std.proofs.lemmas.List.Sums.{length-filter, sum_by-cons}
use Rattle.std.proofs.lemmas.Option.{slice_get-map}
use Rattle.fb_outside.specs.Files.{Files}
use Rattle.fb_types.specs.declared.cells.Cell.{Cell}
use Rattle.part_meta.specs.declared.part.PartMeta.{PartMeta}
use Rattle.where_grammar.specs.declared.clause.Clause.{Clause}
use Rattle.world.specs.PartFiles.{part_data}
use Rattle.world.specs.Stands.{PartRests, Stands}
use Rattle.world.proofs.PlaceLemmas.{All-at}
use Rattle.dataset.specs.Found.{dataset_in}
use Rattle.part_meaning.specs.Meaning.{IsPartAt}
use Rattle.fb_types.specs.declared.schemas.Column.{Column}
use Rattle.where_plan.specs.Plans.{FitsSchema, IsPlan}
use Rattle.where_plan.specs.PlanHolds.{is_asked_for}
use Rattle.where_plan.specs.declared.plan.Plan.{Plan}
use Rattle.wah_logic.specs.Logic.{ones}
use Rattle.world.specs.World.{Content, IsPartition, Partition, World, content_at}
use Rattle.part_meaning.specs.Answers.{definite_in, possible_in, rows_that_hold}
use Rattle.part_meaning.proofs.KnownLemmas.{definite_held, held_possible, rows_of_clause}
use Rattle.query_engine.specs.Parts.{AreParts, definite_over, hits_over, possible_over, rows_chosen}

sum_below : {X : Type 0} (f g : X → ℕ) (P : X → Type 0) (xs : List X) → All P xs → ((x : X) → P x → f x ≤ g x) → sum_by f xs ≤ sum_by g xs
sum_below f g P [] all below = omega arith
sum_below f g P (x ∷ xs) all below =
    let rest = sum_below f g P xs (All-tail P x xs all) below in
    let here = below x (All-head P x xs all) in
    omega (arith, rest, here, sum_by-cons f x xs, sum_by-cons g x xs)

pub definite_hold : (schema : List Column) (parts : List Partition) (planned : Plan) → All (IsPartition schema) parts → FitsSchema schema planned
    → definite_over schema parts planned ≤ hits_over planned parts
unfolding definite_over hits_over
definite_hold schema parts planned all fits =
    sum_below (λ part. definite_in schema part planned) (λ part. ones (rows_that_hold planned part)) (IsPartition schema) parts all
    (λ part is. definite_held schema part planned is fits)

pub hits_are_possible : (schema : List Column) (parts : List Partition) (planned : Plan) → All (IsPartition schema) parts → FitsSchema schema planned
    → hits_over planned parts ≤ possible_over schema parts planned
unfolding hits_over possible_over
hits_are_possible schema parts planned all fits =
    sum_below (λ part. ones (rows_that_hold planned part)) (λ part. possible_in schema part planned) (IsPartition schema) parts all
    (λ part is. held_possible schema part planned is fits)

-- ---- clauses

rows_of_part : (schema : List Column) (part : Partition) (asked : Option Clause) (planned : Plan) → IsPartition schema part → IsPlan schema asked planned
    → rows_that_hold planned part ≡ map (is_asked_for asked schema) part.records
rows_of_part schema part asked planned valid is = rows_of_clause schema asked planned part.records is valid.fit

pub rows_of_clauses : (schema : List Column) (parts : List Partition) (asked : Option Clause) (planned : Plan) → All (IsPartition schema) parts
    → IsPlan schema asked planned → rows_chosen planned parts ≡ map (λ (part : Partition). map (is_asked_for asked schema) part.records) parts
unfolding rows_chosen
rows_of_clauses schema [] asked planned all is = refl
rows_of_clauses schema (part ∷ parts) asked planned all is =
    ap (λ rows. rows ∷ map (rows_that_hold planned) parts) (rows_of_part schema part asked planned (All-head (IsPartition schema) part parts all) is)
    ∙ ap (λ vs. map (is_asked_for asked schema) part.records ∷ vs) (rows_of_clauses schema parts asked planned (All-tail (IsPartition schema) part parts all) is)

ones_map : (test : List Cell → Bool) (records : List (List Cell)) → ones (map test records) ≡ count_by test records
ones_map test [] = refl
ones_map test (record_ ∷ records) =
    let rest = ones_map test records in
    omega (arith, rest, sum_by-cons (λ b. cond b 1 0) (test record_) (map test records), sum_by-cons (λ r. cond (test r) 1 0) record_ records)

ones_passed : (test : List Cell → Bool) (records : List (List Cell)) → ones (map test records) ≡ length (filter test records)
ones_passed test records = ones_map test records ∙ sym (length-filter test records)

pub hits_of_clauses : (schema : List Column) (parts : List Partition) (asked : Option Clause) (planned : Plan) → All (IsPartition schema) parts
    → IsPlan schema asked planned → hits_over planned parts ≡ length (filter (is_asked_for asked schema) (flat_map (λ (part : Partition). part.records) parts))
unfolding hits_over
hits_of_clauses schema [] asked planned all is = refl
hits_of_clauses schema (part ∷ parts) asked planned all is =
    let test = is_asked_for asked schema in
    let records : List Partition → List (List Cell) = flat_map (λ (p : Partition). p.records) in
    let rest = hits_of_clauses schema parts asked planned (All-tail (IsPartition schema) part parts all) is in
    let here : ones (rows_that_hold planned part) ≡ length (filter test part.records)
    = ap ones (rows_of_part schema part asked planned (All-head (IsPartition schema) part parts all) is) ∙ ones_passed test part.records in
    let both : length (filter test (part.records ++ records parts)) ≡ length (filter test part.records) + length (filter test (records parts))
    = ap length (filter-append test part.records (records parts)) ∙ length-append (filter test part.records) (filter test (records parts)) in
    sum_by-cons (λ p. ones (rows_that_hold planned p)) part parts
    ∙ ap (λ n. n + sum_by (λ p. ones (rows_that_hold planned p)) parts) here ∙ ap (λ n. length (filter test part.records) + n) rest ∙ sym both

-- ---- worlds

part_of_world : (files : Files) (dir : List ℕ) (schema : List Column) (meta : PartMeta) (part : Partition) → meta ≡ part_data schema part
    → IsPartition schema part → PartRests files dir schema part → IsPartAt (Some files) dir meta part
part_of_world files dir schema meta part is valid rests =
    subst (λ m. IsPartAt (Some files) dir m part) (sym is) (record { is = refl; valid = valid; rests = rests })

some_is : {X : Type 0} (x y : X) → Some x ≡ Some y → x ≡ y
some_is x y e = cc

pub parts_of_world : (files : Files) (world : World) (dir : List ℕ) (content : Content) → Stands files world → content_at world dir ≡ Some content
    → AreParts (Some files) (dataset_in dir content) content.parts
parts_of_world files world dir content stands there = record {
  number = sym (length-map content.parts (part_data content.schema));
  each = λ place meta part listed at.
      part_of_world files dir content.schema meta part
      (some_is meta (part_data content.schema part) (sym listed ∙ slice_get-map (part_data content.schema) content.parts place ∙ ap (option_map (part_data content.schema)) at))
      (All-at (IsPartition content.schema) content.parts place part at (stands.valid dir content there).parts)
      (All-at (PartRests files dir content.schema) content.parts place part at (stands.rests dir content there).parts);
}
