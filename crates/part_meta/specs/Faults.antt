-- What the readers of catalogs and parts' texts answer.
use Rattle.std.specs.Prelude.{◌≡◌, ℕ, List, Option, Some, None, Result, Ok, Err}
use Rattle.answers.specs.Answers.{Tells}
use Rattle.part_meta.specs.Lines.{IsFirstWrong, lines_in}
use Rattle.part_meta.specs.declared.fault.MetaTextFault.{MetaTextFault}
use Rattle.part_meta.specs.declared.fault.MetaTextFault.TheVariants.{At, OutOfMemory}

-- the value, unless memory ran out
abbrev pub Gives : {A : Type 0} → Result A MetaTextFault → A → Type 0
Gives (Ok found) x = found ≡ x
Gives (Err (At line)) x = ⊥
Gives (Err OutOfMemory) x = Unit {0}

-- the line that a fault tells; want of memory tells none
abbrev pub wrong_line : MetaTextFault → Option ℕ
wrong_line (At line) = Some line
wrong_line OutOfMemory = None

-- What a reader answers: the value whose lines the bytes have, or the first wrong line.
abbrev pub Reads : {A : Type 0} → (A → Type 0) → (A → List (List ℕ)) → List ℕ → Result A MetaTextFault → Type 0
Reads IsOf lines bytes (Ok x) = IsOf x × (lines_in bytes ≡ lines x)
Reads IsOf lines bytes (Err e) = Tells wrong_line (IsFirstWrong IsOf lines bytes) e
