-- What a call answers beside what is defined, where some faults may come at any time, as want of memory does.
-- `told` says what a fault tells of the definition, and None of a fault that may come at any time.
use Rattle.std.specs.Prelude.{◌≡◌, Option, IfSome, Result, Ok, Err}

-- what the fault tells is so, unless it may come at any time
abbrev pub Tells : {E F : Type 0} → (E → Option F) → (F → Type 0) → E → Type 0
Tells told IsSo fault = IfSome (told fault) IsSo

-- the call answered what is defined, or a fault that may come at any time
abbrev pub Answers : {T E F : Type 0} → (E → Option F) → Result T E → Result T F → Type 0
Answers told (Ok value) defined = defined ≡ Ok value
Answers told (Err fault) defined = Tells told (λ f. defined ≡ Err f) fault
