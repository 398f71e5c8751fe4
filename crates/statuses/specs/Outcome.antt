-- What a command answers and does.
use Rattle.std.specs.Prelude.{ℕ, List, [], Result, Ok, Err}
use Rattle.statuses.specs.declared.Status.{Status}
use Rattle.statuses.specs.Lines.{line_of}
use Rattle.world.specs.Effects.{Effect}

-- the status, what is printed, and what is done to the world
pub record Outcome : Type 0 where
  pub status : Status
  pub text : List ℕ
  pub effects : List Effect

-- a refusal prints its line and does nothing
abbrev pub refused : Status → Outcome
refused status = record { status = status; text = line_of status; effects = [] }

-- a step, and the next one where it isn't refused
infixl 10 ◌>>=◌
abbrev pub ◌>>=◌ : {A B : Type 0} → Result A Status → (A → Result B Status) → Result B Status
(Ok x) >>= f = f x
(Err status) >>= f = Err status
