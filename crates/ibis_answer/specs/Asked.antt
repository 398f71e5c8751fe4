-- What is known of a question once its query was read, its dataset opened and its names found.
use Rattle.std.specs.Prelude.{◌≡◌, ⊤, ℕ, List, Option, IfOk, IfSome, Result, Ok, Err}
use Rattle.fb_outside.specs.Files.{Files}
use Rattle.where_grammar.specs.declared.clause.Clause.{Clause}
use Rattle.where_grammar.specs.declared.clause.ClauseFault.{ClauseFault}
use Rattle.where_grammar.specs.declared.clause.ClauseFault.TheVariants as text
use Rattle.where_plan.specs.Plans.{IsPlan}
use Rattle.where_plan.specs.declared.faults.NameFault.{NameFault}
use Rattle.where_plan.specs.declared.faults.NameFault.TheVariants as name
use Rattle.dataset.specs.Found.{Found, There, IsFound}
use Rattle.query_engine.specs.declared.fault.AskFault.{AskFault}
use Rattle.query_engine.specs.declared.fault.AskFault.TheVariants as ask
use Rattle.statuses.specs.declared.Status.{Status}
use Rattle.statuses.specs.declared.Status.TheVariants.{BadQuery}
use Rattle.statuses.specs.declared.stop.Unanswered.{Unanswered}
use Rattle.statuses.specs.declared.stop.Unanswered.TheVariants.{Refused, StoreFault, OutOfMemory}
use Rattle.statuses.specs.Opening.{damaged_status}
use Rattle.ibis_answer.specs.declared.asking.Question.{Question}
use Rattle.ibis_answer.specs.Answer.{asked_of}
use Rattle.ibis_answer.specs.Query.{read_clause}

-- the path has the dataset, and the plan is that of the query's clause
pub record IsAsked (dir query : List ℕ) (files : Option Files) (asked : Question) : Type 0 where
  pub clause : Option Clause
  pub read : read_clause query ≡ Ok clause
  pub there : IfSome files (λ m. IsFound m dir (There asked.dataset))
  pub planned : IsPlan asked.dataset.schema clause asked.plan

-- what is asked is refused so
pub record IsRefusedSo (dir query : List ℕ) (files : Option Files) (status : Status) : Type 0 where
  pub found : Found
  pub found_told : IfOk (read_clause query) (λ clause. IfSome files (λ m. IsFound m dir found))
  pub is : asked_of dir query found ≡ Err status

abbrev pub Asks : (dir query : List ℕ) → Option Files → Result Question Unanswered → Type 0
Asks dir query files (Ok asked) = IsAsked dir query files asked
Asks dir query files (Err (Refused status)) = IsRefusedSo dir query files status
Asks dir query files (Err StoreFault) = ⊤
Asks dir query files (Err OutOfMemory) = ⊤

-- ---- what the faults of the steps are answered by

abbrev pub stop_of_text : ClauseFault → Unanswered
stop_of_text (text.Bad kind) = Refused (BadQuery kind)
stop_of_text text.OutOfMemory = OutOfMemory

abbrev pub stop_of_name : NameFault → Unanswered
stop_of_name (name.Bad kind) = Refused (BadQuery kind)
stop_of_name name.OutOfMemory = OutOfMemory

abbrev pub stop_of_ask : AskFault → Unanswered
stop_of_ask (ask.Damaged file kind want have) =
    Refused (damaged_status (record { file = file; kind = kind; want = want; have = have }))
stop_of_ask ask.Store = StoreFault
stop_of_ask ask.OutOfMemory = OutOfMemory
