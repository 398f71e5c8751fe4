-- Why candidates aren't read.
use Rattle.std.specs.Prelude.{⊤, Result, Ok, Err}
use Rattle.column_file.specs.declared.fault.ColFault.TheVariants as column
use Rattle.text_column.specs.declared.fault.TextFault.{TextFault}
use Rattle.text_column.specs.declared.fault.TextFault.TheVariants as text
use Rattle.candidates.specs.declared.fault.FindFault.{FindFault}
use Rattle.candidates.specs.declared.fault.FindFault.TheVariants.{Values, Texts, OutOfMemory}

-- the store failed
abbrev pub IsOfStore : FindFault → Type 0
IsOfStore (Values column.Store) = ⊤
IsOfStore (Texts text.Store) = ⊤
IsOfStore fault = ⊥

-- the call is refused since the store failed
abbrev pub StoreFailed : {A : Type 0} → Result A FindFault → Type 0
StoreFailed (Ok value) = ⊥
StoreFailed (Err fault) = IsOfStore fault

-- the store failed, or memory ran out
abbrev pub IsOfOutside : FindFault → Type 0
IsOfOutside OutOfMemory = ⊤
IsOfOutside fault = IsOfStore fault

-- how a fault of texts is told: want of memory by itself
abbrev pub text_fault : TextFault → FindFault
text_fault text.OutOfMemory = OutOfMemory
text_fault fault = Texts fault
