-- A command that a session has takes nothing from the input, whatever that is.
use Rattle.std.proofs.Common.{◌≡◌, ℕ, Bool, true, false, is_some, List, Option, Some, None, refl, if◌then◌else◌}
use Rattle.command_words.specs.declared.Job.{Job}
use Rattle.command_words.specs.declared.Job.TheVariants.{Ardea, Gen, Ibis, Session}
use Rattle.command_words.specs.declared.Load.{Load}
use Rattle.command_words.specs.declared.Task.TheVariants as task
use Rattle.world.specs.World.{World}
use Rattle.std.specs.FinMap.{get}
use Rattle.ardea.specs.Load.{Reading, load_outcome, load_result, load_table, reading_of, text_or_refusal}
use Rattle.ardea.specs.Order.{takes_by}
use Rattle.commands.specs.Command.{command_of, command_outcome}
use Rattle.commands.specs.Order.{takes_input}
use Rattle.fastbit_tool.specs.Session.{in_session}

-- a load that a session has names a file
named : (file : Option (List ℕ)) (load : Load) → (if is_some file then Some (Ardea load) else None) ≡ Some (Ardea load) → is_some file ≡ true
named None load h = absurd (cc)
named (Some name) load h = refl

takes_none : (file : Option (List ℕ)) (good : Bool) → is_some file ≡ true → takes_by file good ≡ false
takes_none None good h = absurd (cc)
takes_none (Some name) good h = refl

pub allowed_takes : (asked : Option Job) → in_session asked ≡ asked → takes_input (command_of asked) ≡ false
allowed_takes None h = refl
allowed_takes (Some (Ardea load)) h = takes_none load.file _ (named load.file load h)
allowed_takes (Some (Ibis dir (task.Answer query tell))) h = refl
allowed_takes (Some (Ibis dir (task.Estimate query))) h = refl
allowed_takes (Some (Ibis dir (task.Build spec columns))) h = refl
allowed_takes (Some (Ibis dir task.Check)) h = refl
allowed_takes (Some (Ibis dir task.List)) h = refl
allowed_takes (Some Session) h = refl
allowed_takes (Some (Gen rows seed)) h = refl

text_free : (file : Option (List ℕ)) (a b : List ℕ) (readings : List ℕ → Reading) → is_some file ≡ true
    → text_or_refusal file a readings ≡ text_or_refusal file b readings
text_free None a b readings h = absurd (cc)
text_free (Some name) a b readings h = refl

table_free : (load : Load) (a b : List ℕ) (readings : List ℕ → Reading) → is_some load.file ≡ true
    → load_table load a readings ≡ load_table load b readings
unfolding load_table
table_free load a b readings h = let e = text_free load.file a b readings h in rw e

outcome_free : (load : Load) (a b : List ℕ) (w : World) → is_some load.file ≡ true → load_outcome load a w ≡ load_outcome load b w
unfolding load_result
outcome_free load a b w h = let e = table_free load a b (λ name. reading_of (get w.inputs name)) h in rw e

pub input_free : (asked : Option Job) → in_session asked ≡ asked → (a b : List ℕ) (w : World)
    → command_outcome (command_of asked) a w ≡ command_outcome (command_of asked) b w
input_free None h a b w = refl
input_free (Some (Ardea load)) h a b w = outcome_free load a b w (named load.file load h)
input_free (Some (Ibis dir (task.Answer query tell))) h a b w = refl
input_free (Some (Ibis dir (task.Estimate query))) h a b w = refl
input_free (Some (Ibis dir (task.Build spec columns))) h a b w = refl
input_free (Some (Ibis dir task.Check)) h a b w = refl
input_free (Some (Ibis dir task.List)) h a b w = refl
input_free (Some Session) h a b w = refl
input_free (Some (Gen rows seed)) h a b w = refl

-- what a session has is what it has of that
named_again : (file : Option (List ℕ)) (load : Load) → load.file ≡ file
    → in_session (if is_some file then Some (Ardea load) else None) ≡ (if is_some file then Some (Ardea load) else None)
named_again None load is = refl
named_again (Some name) load is = rw is refl

pub in_session_twice : (asked : Option Job) → in_session (in_session asked) ≡ in_session asked
in_session_twice None = refl
in_session_twice (Some (Ardea load)) = named_again load.file load refl
in_session_twice (Some (Ibis dir task)) = refl
in_session_twice (Some Session) = refl
in_session_twice (Some (Gen rows seed)) = refl
