-- The answers of plans over a part, in the words of what the part means.
use Rattle.std.proofs.Common.{◌≡◌, ◌⊎◌, ℕ, ◌+◌, ◌*◌, ◌≤◌, Bool, List, [], get_or, length, map, Option, Result, refl, sym, ap, subst, ◌∙◌}
use Rattle.std.specs.List.{AllByRecursion}
use Rattle.fb_outside.specs.Files.{Files}
use Rattle.fb_types.specs.declared.schemas.Column.{Column}
use Rattle.part_meta.specs.declared.part.PartMeta.{PartMeta}
use Rattle.stages.specs.Answer.{true_of, work_in}
use Rattle.stages.specs.Meaning.{Meaning}
use Rattle.three_valued.specs.Candidates.{checked, definite_rows, possible_rows}
use Rattle.three_valued.specs.Plans.{atoms_of, is_true}
use Rattle.three_valued.proofs.PlanLemmas.{record_truth}
use Rattle.wah_logic.specs.Logic.{groups_and_rest}
use Rattle.where_plan.specs.Plans.{FitsColumn, FitsSchema}
use Rattle.where_plan.specs.PlanHolds.{plan_atom_holds, plan_holds}
use Rattle.where_plan.specs.declared.plan.Plan.{Plan}
use Rattle.world.specs.World.{Partition}
use Rattle.part_meaning.specs.Answers.{checked_in, definite_in, possible_in, rows_that_hold}
use Rattle.part_meaning.specs.Meaning.{IsPartAt, Means, meaning_of}
use Rattle.part_meaning.specs.Parts.{record_of}
use Rattle.two_stage.proofs.AnswerLemmas.{mapped_rows}

pub all_fit : (schema : List Column) (plan : Plan) → FitsSchema schema plan → AllByRecursion (FitsColumn schema) (atoms_of plan)
unfolding atoms_of
all_fit schema plan h = h

pub as_means : (files : Option Files) (dir : List ℕ) (meta : PartMeta) (part : Partition) → IsPartAt files dir meta part → Means files dir meta (meaning_of dir meta.schema part)
as_means files dir meta part at = record { part = part; has = at; meant = refl }

module _ (dir : List ℕ) (schema : List Column) (part : Partition) (plan : Plan) where
  pub definite_is : definite_rows (length part.records) (meaning_of dir schema part).answer plan ≡ definite_in schema part plan
  unfolding definite_in
  definite_is = refl

  pub possible_is : possible_rows (length part.records) (meaning_of dir schema part).answer plan ≡ possible_in schema part plan
  unfolding possible_in
  possible_is = refl

  pub checked_is : checked (length part.records) (meaning_of dir schema part).answer plan ≡ checked_in schema part plan
  unfolding checked_in
  checked_is = refl

  pub rows_are : true_of (meaning_of dir schema part) plan ≡ rows_that_hold plan part
  rows_are =
      sym (mapped_rows (plan_holds plan) part.records [] (length part.records) (λ row. is_true (λ condition. plan_atom_holds condition (record_of part row)) plan) refl
      (λ row below. sym (record_truth plan (get_or part.records row []))))

pub part_steps : (files : Option Files) (dir : List ℕ) (meta : PartMeta) (part : Partition) (plan : Plan) (old new : ℕ) → IsPartAt files dir meta part
    → new ≤ old + 2 * groups_and_rest (length part.records) * work_in (meaning_of dir meta.schema part) plan
    → new ≤ old + 2 * groups_and_rest meta.rows * work_in (meaning_of dir meta.schema part) plan
part_steps files dir meta part plan old new at h =
    subst (λ (n : ℕ). new ≤ old + 2 * groups_and_rest n * work_in (meaning_of dir meta.schema part) plan) (sym (ap (λ (p : PartMeta). p.rows) at.is)) h
