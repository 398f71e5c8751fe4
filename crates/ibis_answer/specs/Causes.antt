-- What a question and an estimate come to over files, whether or not they stand for a world.
use Rattle.std.specs.Prelude.{◌≡◌, ⊤, ℕ, List, Option, Some, IfSome, Result, Ok, Err, IfOk}
use Rattle.fb_outside.specs.Files.{Files}
use Rattle.where_grammar.specs.declared.clause.Clause.{Clause}
use Rattle.where_plan.specs.PlanOf.{plan_of}
use Rattle.dataset.specs.Damage.{Damage}
use Rattle.dataset.specs.Found.{Found, Absent, There, Broken, IsFound}
use Rattle.query_engine.specs.Damage.{IsPlanDamaged}
use Rattle.world.specs.Stands.{StandsFor}
use Rattle.world.specs.World.{Content, World}
use Rattle.statuses.specs.declared.Status.{Status}
use Rattle.statuses.specs.declared.stop.Unanswered.{Unanswered}
use Rattle.statuses.specs.declared.stop.Unanswered.TheVariants.{Refused, StoreFault, OutOfMemory}
use Rattle.statuses.specs.Opening.{damaged_status}
use Rattle.ibis_answer.specs.Answer.{asked_in, asked_of}
use Rattle.ibis_answer.specs.Query.{read_clause}

-- P of the numbers or the refusal that a command gave, unless the store failed or memory ran out
abbrev pub IfGiven : {A : Type 0} → Result A Unanswered → (Result A Status → Type 0) → Type 0
IfGiven (Ok numbers) P = P (Ok numbers)
IfGiven (Err (Refused status)) P = P (Err status)
IfGiven (Err StoreFault) P = ⊤
IfGiven (Err OutOfMemory) P = ⊤

-- ---- over every store

-- a file of a column that the clause names is damaged in a part of what the path has
abbrev pub IsDamagedIn : Files → Found → Option Clause → Damage → Type 0
IsDamagedIn files Absent clause damage = ⊥
IsDamagedIn files (Broken broken) clause damage = ⊥
IsDamagedIn files (There dataset) clause damage = IsPlanDamaged (Some files) dataset (plan_of dataset.schema clause) damage

-- What is asked comes to the refusal that the definition has. Else it comes to numbers, or to such a damaged file.
abbrev pub ComesBy : {A : Type 0} → Option Files → Found → Result (Option Clause) Status → Result A Status → Type 0
ComesBy files found (Err status) result = result ≡ Err status
ComesBy files found (Ok clause) (Ok numbers) = ⊤
ComesBy files found (Ok clause) (Err status) =
    (damage : Damage) × (status ≡ damaged_status damage) × IfSome files (λ m. IsDamagedIn m found clause damage)

-- the same of a store, which may not tell its files; what the path has counts for nothing where the query's text is refused
pub record Comes {A : Type 0} (dir query : List ℕ) (files : Option Files) (result : Result A Status) : Type 0 where
  pub found : Found
  pub found_told : IfOk (read_clause query) (λ clause. IfSome files (λ m. IsFound m dir found))
  pub comes : ComesBy files found (asked_of dir query found) result

abbrev pub Gives : {A : Type 0} → (dir query : List ℕ) → Option Files → Result A Unanswered → Type 0
Gives dir query files result = IfGiven result (Comes dir query files)

-- ---- where the files stand for a world

-- the numbers are those of the world's records, and a refusal is the definition's
abbrev pub IsOfWorld : {A : Type 0} → (Option Clause → Option Content → A) → (dir query : List ℕ) → Option Files → Result A Unanswered → Type 0
IsOfWorld numbers dir query files result =
    (world : World) → StandsFor files world → IfGiven result (λ given. given ≡ asked_in numbers dir query world)
