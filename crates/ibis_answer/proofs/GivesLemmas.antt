-- What a question comes to over files, whether or not they stand for a world.
use Rattle.std.proofs.Common.{◌≡◌, ℕ, List, Option, Some, None, IfSome, Result, Ok, Err, refl, sym, subst}
use Rattle.std.specs.Prelude.{IfOk}
use Rattle.fb_outside.specs.Files.{Files}
use Rattle.where_grammar.specs.declared.clause.Clause.{Clause}
use Rattle.where_grammar.specs.declared.clause.QueryKind.{QueryKind}
use Rattle.where_plan.specs.PlanOf.{plan_of}
use Rattle.where_plan.specs.declared.plan.Plan.{Plan}
use Rattle.where_plan.proofs.PlanOfLemmas.{is_plan_of}
use Rattle.dataset.specs.Damage.{Damage}
use Rattle.dataset.specs.Found.{Found, IsFound, There}
use Rattle.dataset.specs.declared.content.Dataset.{Dataset}
use Rattle.query_engine.specs.Damage.{IfDamaged, IsPlanDamaged}
use Rattle.query_engine.specs.declared.fault.AskFault.{AskFault}
use Rattle.query_engine.specs.declared.fault.AskFault.TheVariants as ask
use Rattle.statuses.specs.declared.Status.{Status}
use Rattle.statuses.specs.Opening.{damaged_status}
use Rattle.ibis_answer.specs.declared.asking.Question.{Question}
use Rattle.ibis_answer.specs.Answer.{asked_of}
use Rattle.ibis_answer.specs.Asked.{IsAsked, stop_of_ask}
use Rattle.ibis_answer.specs.Causes.{Comes, ComesBy, Gives, IsDamagedIn}
use Rattle.ibis_answer.specs.Query.{read_clause}
use Rattle.ibis_answer.proofs.QueryLemmas.{asked_planned}

module _ (dir query : List ℕ) (files : Option Files) (question : Question) (is : IsAsked dir query files question) where
  damaged_told : (told : Option Files) (damage : Damage) → IsPlanDamaged told question.dataset (plan_of question.dataset.schema is.clause) damage
      → IfSome told (λ m. IsDamagedIn m (There question.dataset) is.clause damage)
  damaged_told None damage h = tt
  damaged_told (Some m) damage h = h

  damaged_in : (after : Option Files) (damage : Damage) → after ≡ files → IsPlanDamaged after question.dataset question.plan damage
      → IfSome files (λ m. IsDamagedIn m (There question.dataset) is.clause damage)
  damaged_in after damage kept h =
      damaged_told files damage
      (subst (λ (plan : Plan). IsPlanDamaged files question.dataset plan damage) (is_plan_of question.dataset.schema is.clause question.plan is.planned)
      (subst (λ (f : Option Files). IsPlanDamaged f question.dataset question.plan damage) kept h))

  comes_asked : (A : Type 0) (result : Result A Status) → ComesBy files (There question.dataset) (Ok is.clause) result → Comes dir query files result
  comes_asked A result h = record {
    found = There question.dataset;
    found_told = subst (λ (r : Result (Option Clause) QueryKind). IfOk r (λ c. IfSome files (λ m. IsFound m dir (There question.dataset)))) (sym is.read) is.there;
    comes = subst (λ (r : Result (Option Clause) Status). ComesBy files (There question.dataset) r result)
        (sym (asked_planned dir query question.dataset is.clause question.plan is.read is.planned)) h;
  }

  pub numbers_given : (A : Type 0) (numbers : A) → Gives dir query files (Ok numbers)
  numbers_given A numbers = comes_asked A (Ok numbers) tt

  pub stop_given : (A : Type 0) (after : Option Files) (fault : AskFault) → after ≡ files → IfDamaged fault (IsPlanDamaged after question.dataset question.plan)
      → Gives {A = A} dir query files (Err (stop_of_ask fault))
  stop_given A after (ask.Damaged file kind want have) kept h =
      let found : Damage = record { file = file; kind = kind; want = want; have = have } in
      comes_asked A (Err (damaged_status found)) (found, refl, damaged_in after found kept h)
  stop_given A after ask.Store kept h = tt
  stop_given A after ask.OutOfMemory kept h = tt
