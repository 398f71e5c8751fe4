-- From what a question, an estimate or a listing gives to how the command ran.
use Rattle.std.proofs.Common.{◌≡◌, ◌≢◌, ℕ, Bool, List, Option, Some, None, Result, Ok, Err, is_ok, true, false, refl, sym, ap, ◌∙◌, arith}
use Rattle.fb_outside.specs.Files.{Files}
use Rattle.fb_outside.specs.Names.{IsPath}
use Rattle.fb_outside.specs.Reads.{Look}
use Rattle.fb_outside.specs.Streams.{ForSomeInput}
use Rattle.fb_outside.proofs.ReadLemmas.{AddsOnly-same, AddsReads-same, AddsReads-weaken}
use Rattle.where_grammar.specs.declared.clause.Clause.{Clause}
use Rattle.where_plan.specs.declared.plan.Plan.{Plan}
use Rattle.world.specs.World.{Content, Partition, World, content_at}
use Rattle.world.specs.Stands.{Stands, StandsFor}
use Rattle.dataset.specs.Found.{found_in}
use Rattle.dataset.specs.Opened.{IsTextLook}
use Rattle.dataset.specs.declared.content.Dataset.{Dataset}
use Rattle.query_engine.specs.Reads.{is_allowed_over, is_free_over}
use Rattle.stages.specs.Looks.{Looks}
use Rattle.stages.specs.declared.walk.Bounds.{Bounds}
use Rattle.statuses.specs.declared.Status.{Status}
use Rattle.statuses.specs.declared.Status.TheVariants.{Done, StoreFault}
use Rattle.statuses.specs.Lines.{line_of}
use Rattle.statuses.specs.Outcome.{Outcome, refused}
use Rattle.ibis.proofs.ListingWorldLemmas.{list_is}
use Rattle.ibis.specs.Listing.{ListComes, list_outcome, listed}
use Rattle.ibis_answer.specs.Answer.{answer_text, asked_in, asked_of, between_in, between_line, counted_in, told}
use Rattle.ibis_answer.specs.Causes.{Comes}
use Rattle.ibis_answer.specs.Looks.{AddsAskedLooks, ReadsInWorld}
use Rattle.ibis_answer.specs.Query.{read_clause}
use Rattle.ibis_answer.specs.declared.answering.Counted.{Counted}
use Rattle.commands.specs.Causes.{ComesTo, NumbersComeTo}
use Rattle.commands.specs.Command.{Answers, Builds, Command, Estimates, Lists, Loads, Unknown, command_outcome}
use Rattle.commands.specs.Looks.{ReadsAllowed, TakesSteps}
use Rattle.commands.specs.Reply.{is_fault}
use Rattle.commands.specs.Runs.{Prints, Replied, Runs, SaysSame, Unstored}
use Rattle.commands.proofs.PrintLemmas.{some_input, some_told}
use Rattle.commands.proofs.Refusals.{IsRefusal-answer, IsRefusal-list}
use Rattle.commands.proofs.RunLemmas.{same_says}

-- ---- a question and an estimate

-- a command that tells these numbers of a query in this text
module _ {A : Type 0} (text : A → List ℕ) (numbers : Option Clause → Option Content → A) (dir query : List ℕ) (command : Command)
    (is : (input : List ℕ) (w : World) → command_outcome command input w ≡ told text (asked_in numbers dir query w))
    (comes_to : (left : Option (List ℕ)) (files : Option Files) (reply : Outcome) → NumbersComeTo text dir query files reply → ComesTo command left files reply)
    (left : Option (List ℕ)) (files : Option Files) (before after : Option (List ℕ)) (status : Status) where
  runs_with : (result : Result A Status) → Comes dir query files result → ((w : World) → StandsFor files w → result ≡ asked_in numbers dir query w)
      → is_fault (told text result).status ≡ false → Prints (told text result).status (told text result).text before after status
      → Runs command left files before after status
  runs_with result comes world plain prints =
      Replied (told text result) (comes_to left files (told text result) (record { result = result; comes = comes; is = refl }))
      (record {
        input = some_input left;
        told = some_told left;
        holds = λ w h. same_says (told text result) (command_outcome command (some_input left) w) (ap (told text) (world w h) ∙ sym (is (some_input left) w));
      })
      plain prints

  declines_with : (refusal : Status) → Comes {A = A} dir query files (Err refusal) → ((w : World) → StandsFor files w → Err refusal ≡ asked_in numbers dir query w)
      → Prints refusal (line_of refusal) before after status → Runs command left files before after status
  declines_with refusal comes world prints = runs_with (Err refusal) comes world (IsRefusal-answer dir query files refusal comes).no_fault prints

module _ (dir query : List ℕ) (tell : Bool) (left : Option (List ℕ)) (files : Option Files) (before after : Option (List ℕ)) (status : Status) where
  pub answer_tells : (counted : Counted) → Comes dir query files (Ok counted) → ((w : World) → StandsFor files w → Ok counted ≡ asked_in counted_in dir query w)
      → Prints Done (answer_text tell counted) before after status → Runs (Answers dir query tell) left files before after status
  answer_tells counted comes world prints =
      runs_with (answer_text tell) counted_in dir query (Answers dir query tell) (λ input w. refl) (λ l f reply h. h) left files before after status
      (Ok counted) comes world refl prints

  pub answer_declines : (refusal : Status) → Comes {A = Counted} dir query files (Err refusal)
      → ((w : World) → StandsFor files w → Err refusal ≡ asked_in counted_in dir query w)
      → Prints refusal (line_of refusal) before after status → Runs (Answers dir query tell) left files before after status
  answer_declines refusal comes world prints =
      declines_with (answer_text tell) counted_in dir query (Answers dir query tell) (λ input w. refl) (λ l f reply h. h) left files before after status
      refusal comes world prints

pub answer_unstored : (dir query : List ℕ) (tell : Bool) (left : Option (List ℕ)) (files : Option Files) (before : Option (List ℕ))
    → is_ok (read_clause query) ≡ true → Runs (Answers dir query tell) left files before before StoreFault
answer_unstored dir query tell left files before asks =
    Unstored (record { input = some_input left; told = some_told left; holds = asks }) refl refl

module _ (dir query : List ℕ) (left : Option (List ℕ)) (files : Option Files) (before after : Option (List ℕ)) (status : Status) where
  pub estimate_tells : (bounds : Bounds) → Comes dir query files (Ok bounds) → ((w : World) → StandsFor files w → Ok bounds ≡ asked_in between_in dir query w)
      → Prints Done (between_line bounds) before after status → Runs (Estimates dir query) left files before after status
  estimate_tells bounds comes world prints =
      runs_with between_line between_in dir query (Estimates dir query) (λ input w. refl) (λ l f reply h. h) left files before after status
      (Ok bounds) comes world refl prints

  pub estimate_declines : (refusal : Status) → Comes {A = Bounds} dir query files (Err refusal)
      → ((w : World) → StandsFor files w → Err refusal ≡ asked_in between_in dir query w)
      → Prints refusal (line_of refusal) before after status → Runs (Estimates dir query) left files before after status
  estimate_declines refusal comes world prints =
      declines_with between_line between_in dir query (Estimates dir query) (λ input w. refl) (λ l f reply h. h) left files before after status
      refusal comes world prints

pub estimate_unstored : (dir query : List ℕ) (left : Option (List ℕ)) (files : Option Files) (before : Option (List ℕ))
    → is_ok (read_clause query) ≡ true → Runs (Estimates dir query) left files before before StoreFault
estimate_unstored dir query left files before asks =
    Unstored (record { input = some_input left; told = some_told left; holds = asks }) refl refl

-- ---- its reads

-- what was read by a call that is done where less is done
looks_later : (allowed is_bitmap : Look → Bool) (bitmaps : List Look) (done more : Type 0) → (more → done) → (added : List Look)
    → Looks allowed is_bitmap bitmaps done added → Looks allowed is_bitmap bitmaps more added
looks_later allowed is_bitmap bitmaps done more f added h =
    record { each = h.each; left = h.left; front = h.front; whole = λ is. h.whole (f is) }

asked_later : (allowed : Dataset → List Partition → Plan → Look → Bool) (dir : List ℕ) (asked : Result (Option Clause) Status) (content : Option Content)
    (old new : Option (List Look)) (done more : Type 0) → (more → done) → AddsAskedLooks allowed dir asked content old new done
    → AddsAskedLooks allowed dir asked content old new more
asked_later allowed dir (Ok clause) (Some content) old new done more f h =
    AddsReads-weaken old new (looks_later _ _ _ done more f) h
asked_later allowed dir (Ok clause) None old new done more f h = h
asked_later allowed dir (Err status) content old new done more f h = h

pub reads_later : (allowed : Dataset → List Partition → Plan → Look → Bool) (dir query : List ℕ) (files : Option Files) (old new : Option (List Look))
    (done more : Type 0) → (more → done) → ReadsInWorld allowed dir query files old new done → ReadsInWorld allowed dir query files old new more
reads_later allowed dir query files old new done more f h =
    λ w stands. asked_later allowed dir (asked_of dir query (found_in w dir)) (content_at w dir) old new done more f (h w stands)

-- a call that read nothing, and wasn't done
asked_none : (allowed : Dataset → List Partition → Plan → Look → Bool) (dir : List ℕ) (asked : Result (Option Clause) Status) (content : Option Content)
    (reads : Option (List Look)) (done : Type 0) → (done → ⊥) → AddsAskedLooks allowed dir asked content reads reads done
asked_none allowed dir (Ok clause) (Some content) reads done not_done =
    AddsReads-same reads reads refl (record { each = tt; left = _; front = refl; whole = λ is. absurd (not_done is) })
asked_none allowed dir (Ok clause) None reads done not_done = AddsOnly-same (IsTextLook dir) reads reads refl
asked_none allowed dir (Err status) content reads done not_done = AddsOnly-same (IsTextLook dir) reads reads refl

pub nothing_allowed : (command : Command) (files : Option Files) (reads : Option (List Look)) (status : Status) → status ≢ Done → ReadsAllowed command files reads reads status
nothing_allowed (Loads load) files reads status other = tt
nothing_allowed (Answers dir query tell) files reads status other =
    λ w h. asked_none is_allowed_over dir (asked_of dir query (found_in w dir)) (content_at w dir) reads (status ≡ Done) other
nothing_allowed (Estimates dir query) files reads status other =
    λ w h. asked_none is_free_over dir (asked_of dir query (found_in w dir)) (content_at w dir) reads (status ≡ Done) other
nothing_allowed (Builds dir text list) files reads status other = tt
nothing_allowed (Lists dir) files reads status other = tt
nothing_allowed Unknown files reads status other = tt

pub no_steps : (command : Command) (files : Option Files) (steps : ℕ) → TakesSteps command files steps steps
no_steps (Loads load) files steps = tt
no_steps (Answers dir query tell) files steps = λ w h. omega arith
no_steps (Estimates dir query) files steps = λ w h. omega arith
no_steps (Builds dir text list) files steps = tt
no_steps (Lists dir) files steps = tt
no_steps Unknown files steps = tt

-- ---- a listing

list_over : (dir : List ℕ) (files : Option Files) (result : Result (List ℕ) Status) (w : World) → IsPath dir → ListComes dir files result
    → StandsFor files w → listed result ≡ list_outcome dir w
list_over dir None result w path comes h = absurd h
list_over dir (Some m) result w path comes h =
    sym (ap listed (list_is m w dir h path result comes))

list_answers : (dir : List ℕ) (left : Option (List ℕ)) (files : Option Files) (result : Result (List ℕ) Status) → IsPath dir
    → ListComes dir files result → ForSomeInput left (λ input. (w : World) → StandsFor files w → SaysSame (listed result) (list_outcome dir w))
list_answers dir left files result path comes =
    record { input = some_input left; told = some_told left; holds = λ w h. same_says (listed result) (list_outcome dir w) (list_over dir files result w path comes h) }

pub lists_lines : (dir : List ℕ) (left : Option (List ℕ)) (files : Option Files) (before after : Option (List ℕ)) (status : Status) (text : List ℕ)
    → IsPath dir → ListComes dir files (Ok text) → Prints Done text before after status → Runs (Lists dir) left files before after status
lists_lines dir left files before after status text path comes prints =
    Replied (listed (Ok text)) (record { result = Ok text; comes = comes; is = refl }) (list_answers dir left files (Ok text) path comes) refl prints

pub list_declines : (dir : List ℕ) (left : Option (List ℕ)) (files : Option Files) (before after : Option (List ℕ)) (status refusal : Status)
    → IsPath dir → ListComes dir files (Err refusal) → Prints refusal (line_of refusal) before after status
    → Runs (Lists dir) left files before after status
list_declines dir left files before after status refusal path comes prints =
    Replied (refused refusal) (record { result = Err refusal; comes = comes; is = refl }) (list_answers dir left files (Err refusal) path comes)
    (IsRefusal-list dir files refusal comes).no_fault prints

pub list_unstored : (dir : List ℕ) (left : Option (List ℕ)) (files : Option Files) (before : Option (List ℕ))
    → Runs (Lists dir) left files before before StoreFault
list_unstored dir left files before =
    Unstored (record { input = some_input left; told = some_told left; holds = refl }) refl refl
