-- Want of memory is no failure of the store.
use Rattle.std.proofs.Common.{◌≡◌, sym, subst}
use Rattle.two_stage.specs.Faults.{IsOfMemory, IsOfStore}
use Rattle.two_stage.specs.declared.fault.EvalFault.{EvalFault}
use Rattle.two_stage.specs.declared.fault.EvalFault.TheVariants.{Col, Index, Words, Text, OutOfMemory}

pub of_memory : (fault : EvalFault) → fault ≡ OutOfMemory → IsOfMemory fault
of_memory fault e = subst (λ (f : EvalFault). IsOfMemory f) (sym e) tt

pub not_of_store : (fault : EvalFault) → IsOfMemory fault → IsOfStore fault → ⊥
not_of_store (Col col why) memory store = memory
not_of_store (Index col why) memory store = memory
not_of_store (Words col why) memory store = memory
not_of_store (Text col why) memory store = memory
not_of_store OutOfMemory memory store = store
