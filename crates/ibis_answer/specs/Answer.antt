-- What a question and an estimate answer.
use Rattle.std.specs.Prelude.{ℕ, Bool, true, false, List, [], ◌++◌, length, decimal, Option, Some, None, Result, Ok, Err}
use Rattle.std.specs.List.{filter}
use lib.Chars.{codes}
use Rattle.where_grammar.specs.declared.clause.Clause.{Clause}
use Rattle.where_plan.specs.PlanHolds.{is_asked_for}
use Rattle.where_plan.specs.PlanOf.{plan_of}
use Rattle.query_engine.specs.Parts.{checked_over, definite_over, possible_over}
use Rattle.dataset.specs.Found.{Found, found_in}
use Rattle.world.specs.World.{Content, World, content_at, records_of}
use Rattle.statuses.specs.declared.Status.{Status}
use Rattle.statuses.specs.declared.Status.TheVariants.{Done}
use Rattle.statuses.specs.Opening.{dataset_or_refusal}
use Rattle.statuses.specs.Outcome.{◌>>=◌, Outcome, refused}
use Rattle.stages.specs.declared.walk.Bounds.{Bounds}
use Rattle.ibis_answer.specs.declared.answering.Counted.{Counted}
use Rattle.ibis_answer.specs.Query.{clause_or_refusal, read_clause, resolved}

-- ---- the refusals, whose causes the query and the path have

-- the clause that is asked, where neither the query's text, nor what the path has, nor a name is refused
unfoldable pub asked_of : (dir query : List ℕ) → Found → Result (Option Clause) Status
asked_of dir query found = do
  clause ← clause_or_refusal (read_clause query)
  dataset ← dataset_or_refusal dir found
  resolved dataset.schema clause

-- ---- the numbers, over the records of a dataset

-- how many records the clause asks for
abbrev pub hits : Option Clause → Content → ℕ
hits clause content = length (filter (is_asked_for clause content.schema) (records_of content))

-- over the parts, how many pairs of a condition and a candidate of it are checked by values
abbrev pub checked : Option Clause → Content → ℕ
checked clause content = checked_over content.schema content.parts (plan_of content.schema clause)

-- on how many rows the bins say that the clause holds, and on how many that it may
abbrev pub definite : Option Clause → Content → ℕ
definite clause content = definite_over content.schema content.parts (plan_of content.schema clause)

abbrev pub possible : Option Clause → Content → ℕ
possible clause content = possible_over content.schema content.parts (plan_of content.schema clause)

-- ---- in a world

-- where the path has no dataset it is refused before
abbrev pub counted_in : Option Clause → Option Content → Counted
counted_in clause None = record { hits = 0; checked = 0 }
counted_in clause (Some content) = record { hits = hits clause content; checked = checked clause content }

abbrev pub between_in : Option Clause → Option Content → Bounds
between_in clause None = record { definite = 0; possible = 0 }
between_in clause (Some content) = record { definite = definite clause content; possible = possible clause content }

abbrev pub numbers_of : {A : Type 0} → (Option Clause → Option Content → A) → Result (Option Clause) Status → Option Content → Result A Status
numbers_of numbers (Ok clause) content = Ok (numbers clause content)
numbers_of numbers (Err status) content = Err status

-- the numbers that are asked for of the path's dataset, or the refusal
abbrev pub asked_in : {A : Type 0} → (Option Clause → Option Content → A) → (dir query : List ℕ) → World → Result A Status
asked_in numbers dir query world = numbers_of numbers (asked_of dir query (found_in world dir)) (content_at world dir)

-- ---- what is told of them

unfoldable pub hits_line : ℕ → List ℕ
hits_line count = codes "hits " ++ (decimal count ++ codes "\n")

unfoldable pub checked_line : ℕ → List ℕ
checked_line count = codes "checked " ++ (decimal count ++ codes "\n")

-- the checks are told where it is asked for
abbrev pub answer_text : (tell : Bool) → Counted → List ℕ
answer_text true c = hits_line c.hits ++ checked_line c.checked
answer_text false c = hits_line c.hits

unfoldable pub between_line : Bounds → List ℕ
between_line b = codes "between " ++ (decimal b.definite ++ (codes " and " ++ (decimal b.possible ++ codes "\n")))

-- what is told, which changes nothing, or the refusal
abbrev pub told : {A : Type 0} → (A → List ℕ) → Result A Status → Outcome
told text (Ok numbers) = record { status = Done; text = text numbers; effects = [] }
told text (Err status) = refused status

-- a question, and an estimate
abbrev pub answer_outcome : (dir query : List ℕ) → (tell : Bool) → World → Outcome
answer_outcome dir query tell world = told (answer_text tell) (asked_in counted_in dir query world)

abbrev pub estimate_outcome : (dir query : List ℕ) → World → Outcome
estimate_outcome dir query world = told between_line (asked_in between_in dir query world)
