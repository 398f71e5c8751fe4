-- What the answer of a call says, where it isn't a fault that no clause ties to anything.
use Rattle.std.specs.Prelude.{Result, IsErrOf}

-- It holds, unless the call answers this fault: so "or memory ran out" is said of any result.
abbrev pub UnlessErr : {A E : Type 0} → Result A E → E → Type 0 → Type 0
UnlessErr result fault P = (IsErrOf result fault → ⊥) → P
