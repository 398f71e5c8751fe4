-- The records of parts that a plan holds of are those that its clause asks for.
use Rattle.std.proofs.Common.{◌≡◌, ℕ, ◌+◌, Bool, List, [], ◌∷◌, ◌++◌, length, map, Option, refl, sym, ap, ◌∙◌, arith}
use Rattle.std.specs.List.{All, count_by, filter, flat_map, sum_by}
use Rattle.std.proofs.lemmas.List.{length-append}
use Rattle.std.proofs.lemmas.List.Concat.{flat_map-cons}
use Rattle.std.proofs.lemmas.List.Elements.{All-head, All-tail, filter-append}
use Rattle.std.proofs.lemmas.List.Sums.{sum_by-cons}
use Rattle.fb_types.specs.declared.cells.Cell.{Cell}
use Rattle.fb_types.specs.declared.schemas.Column.{Column}
use Rattle.where_grammar.specs.declared.clause.Clause.{Clause}
use Rattle.where_plan.specs.PlanHolds.{is_asked_for}
use Rattle.where_plan.specs.Plans.{IsPlan}
use Rattle.where_plan.specs.declared.plan.Plan.{Plan}
use Rattle.wah_logic.specs.Logic.{ones}
use Rattle.stages.proofs.RowLemmas.{count_by-filter}
use Rattle.world.specs.World.{IsPartition, Partition}
use Rattle.part_meaning.specs.Answers.{rows_that_hold}
use Rattle.part_meaning.proofs.KnownLemmas.{rows_of_clause}
use Rattle.query_engine.specs.Parts.{hits_over}

module _ (schema : List Column) (clause : Option Clause) (plan : Plan) (is : IsPlan schema clause plan) where
  hits_in : (part : Partition) → IsPartition schema part → ones (rows_that_hold plan part) ≡ length (filter (is_asked_for clause schema) part.records)
  hits_in part valid = ap ones (rows_of_clause schema clause plan part.records is valid.fit) ∙ count_by-filter (is_asked_for clause schema) part.records

  hits_by : (parts : List Partition) → All (IsPartition schema) parts
      → sum_by (λ part. ones (rows_that_hold plan part)) parts ≡ length (filter (is_asked_for clause schema) (flat_map (λ part. part.records) parts))
  hits_by [] valid = refl
  hits_by (part ∷ parts) valid =
      let records : List (List Cell) = flat_map (λ (p : Partition). p.records) parts in
      let first = hits_in part (All-head (IsPartition schema) part parts valid) in
      let rest = hits_by parts (All-tail (IsPartition schema) part parts valid) in
      let split : length (filter (is_asked_for clause schema) (flat_map (λ (p : Partition). p.records) (part ∷ parts)))
      ≡ length (filter (is_asked_for clause schema) part.records) + length (filter (is_asked_for clause schema) records) =
      ap (λ rs. length (filter (is_asked_for clause schema) rs)) (flat_map-cons (λ (p : Partition). p.records) part parts)
      ∙ ap length (filter-append (is_asked_for clause schema) part.records records)
      ∙ length-append (filter (is_asked_for clause schema) part.records) (filter (is_asked_for clause schema) records) in
      omega (arith, first, rest, split, sum_by-cons (λ (p : Partition). ones (rows_that_hold plan p)) part parts)

  pub hits_of_parts : (parts : List Partition) → All (IsPartition schema) parts
      → hits_over plan parts ≡ length (filter (is_asked_for clause schema) (flat_map (λ part. part.records) parts))
  unfolding hits_over
  hits_of_parts parts valid = hits_by parts valid
