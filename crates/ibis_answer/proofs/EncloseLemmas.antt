-- The two numbers of an estimate enclose the hits of its question.
use Rattle.std.proofs.Common.{◌≡◌, ◌≤◌, ℕ, List, Option, Some, None, Result, Ok, Err, refl, sym, ap, ◌∙◌, arith}
use Rattle.std.specs.List.{All}
use Rattle.fb_outside.specs.Files.{Files}
use Rattle.fb_types.specs.declared.schemas.Column.{Column}
use Rattle.where_grammar.specs.declared.clause.Clause.{Clause}
use Rattle.where_grammar.specs.declared.clause.QueryKind.{QueryKind}
use Rattle.where_plan.specs.PlanOf.{plan_of}
use Rattle.where_plan.specs.Plans.{FitsSchema}
use Rattle.where_plan.specs.Refusals.{refusal_of}
use Rattle.where_plan.specs.declared.plan.Plan.{Plan}
use Rattle.where_plan.proofs.PlanLemmas.{fits_given}
use Rattle.where_plan.proofs.PlanOfLemmas.{has_plan}
use Rattle.world.specs.Stands.{Stands}
use Rattle.world.specs.World.{Content, IsPartition, Partition, World, content_at}
use Rattle.dataset.specs.Found.{There, dataset_in, found_by}
use Rattle.dataset.specs.declared.content.Dataset.{Dataset}
use Rattle.query_engine.specs.Parts.{definite_over, hits_over, possible_over}
use Rattle.stages.specs.declared.walk.Bounds.{Bounds}
use Rattle.statuses.specs.declared.Status.{Status}
use Rattle.statuses.specs.declared.Status.TheVariants.{BadQuery}
use Rattle.ibis_answer.specs.declared.answering.Counted.{Counted}
use Rattle.ibis_answer.specs.Answer.{asked_in, asked_of, between_in, counted_in, numbers_of}
use Rattle.ibis_answer.specs.Query.{fits_or_refusal, read_clause}
use Rattle.ibis_answer.proofs.HitLemmas.{hits_of_parts}
use Rattle.ibis_answer.proofs.QueryLemmas.{asked_refused, asked_there}

named_by : (schema : List Column) (clause asked : Option Clause) (refused : Option QueryKind) → refusal_of schema asked ≡ refused
    → fits_or_refusal asked refused ≡ Ok clause → refusal_of schema clause ≡ None
named_by schema clause asked None e h = let same : asked ≡ clause = cc in ap (refusal_of schema) (sym same) ∙ e
named_by schema clause asked (Some kind) e h = absurd (cc)

-- the names of what is asked are found
unrefused : (dir query : List ℕ) (dataset : Dataset) (clause : Option Clause) (read : Result (Option Clause) QueryKind) → read_clause query ≡ read
    → asked_of dir query (There dataset) ≡ Ok clause → refusal_of dataset.schema clause ≡ None
unrefused dir query dataset clause (Err kind) e h =
    absurd (let bad : Err (BadQuery kind) ≡ Ok clause = sym (asked_refused dir query (There dataset) kind e) ∙ h in cc)
unrefused dir query dataset clause (Ok asked) e h =
    named_by dataset.schema clause asked (refusal_of dataset.schema asked) refl (sym (asked_there dir query dataset asked e) ∙ h)

abbrev Encloses : Type 0
Encloses = (schema : List Column) (parts : List Partition) (planned : Plan) → All (IsPartition schema) parts → FitsSchema schema planned
    → (definite_over schema parts planned ≤ hits_over planned parts) × (hits_over planned parts ≤ possible_over schema parts planned)

module _ (law : Encloses) (files : Files) (world : World) (dir query : List ℕ) (counted : Counted) (bounds : Bounds) (stands : Stands files world) where
  enclosed_by : (asked : Result (Option Clause) Status) (found : Option Content) → asked_of dir query (found_by dir found) ≡ asked → content_at world dir ≡ found
      → numbers_of counted_in asked found ≡ Ok counted → numbers_of between_in asked found ≡ Ok bounds
      → (bounds.definite ≤ counted.hits) × (counted.hits ≤ bounds.possible)
  enclosed_by (Err status) found is at h k = absurd (cc)
  enclosed_by (Ok clause) None is at h k =
      let some : counted_in clause None ≡ counted = cc in
      let between : between_in clause None ≡ bounds = cc in
      let hits = ap (λ (c : Counted). c.hits) some in
      let least = ap (λ (b : Bounds). b.definite) between in
      (omega (arith, hits, least), omega (arith, hits))
  enclosed_by (Ok clause) (Some content) is at h k =
      let some : counted_in clause (Some content) ≡ counted = cc in
      let between : between_in clause (Some content) ≡ bounds = cc in
      let plan : Plan = plan_of content.schema clause in
      let planned = has_plan content.schema clause (unrefused dir query (dataset_in dir content) clause (read_clause query) refl is) in
      let valid = (stands.valid dir content at).parts in
      let both = law content.schema content.parts plan valid (fits_given content.schema clause (Ok plan) planned) in
      let all = hits_of_parts content.schema clause plan planned content.parts valid in
      let hits = ap (λ (c : Counted). c.hits) some in
      let least = ap (λ (b : Bounds). b.definite) between in
      let most = ap (λ (b : Bounds). b.possible) between in
      (omega (arith, both.0, all, hits, least), omega (arith, both.1, all, hits, most))

  pub enclosed : asked_in counted_in dir query world ≡ Ok counted → asked_in between_in dir query world ≡ Ok bounds
      → (bounds.definite ≤ counted.hits) × (counted.hits ≤ bounds.possible)
  enclosed h k = enclosed_by (asked_of dir query (found_by dir (content_at world dir))) (content_at world dir) refl refl h k
